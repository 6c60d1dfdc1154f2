-- The view of the code's frames.
use Rattle.std.proofs.Common.{◌≡◌, ℕ, zero, suc, ◌+◌, ◌-◌, cond, List, [], ◌∷◌, ◌++◌, length, Option, Some, None}
use Rattle.std.proofs.Common.{slice_get, refl, sym, ap, ◌∙◌, arith}
use Rattle.script_frames.specs.declared.frames.Frame as frame_type
use Rattle.run_model.specs.GrammarTrees.{Tree}
use Rattle.dt_grammar.specs.Machine.{Frame, Front, Left, InParen, InCall, InItem, InNamed, InAssign, InStmt, close}
use Rattle.dt_grammar.specs.Machine.{demand}
use Rattle.dt_tree.specs.declared.tree.Expr.{Expr}
use Rattle.run_model.specs.TreeView.{tree_of}
use Rattle.script_frames.specs.Frames.{frame_of, frames_over, frames_of, closed_of, binds, ended, frame_demand}

pub frames_over-append : (below : List Frame) (fs : List frame_type.Frame) (f : frame_type.Frame)
    → frames_over below (fs ++ f ∷ []) ≡ frame_of f ∷ frames_over below fs
frames_over-append below [] f = refl
frames_over-append below (g ∷ fs) f = frames_over-append (frame_of g ∷ below) fs f

pub frames_of-append : (fs : List frame_type.Frame) (f : frame_type.Frame)
    → frames_of (fs ++ f ∷ []) ≡ frame_of f ∷ frames_of fs
frames_of-append fs f = frames_over-append [] fs f

-- the innermost frame, taken from the others
pub frames_of-popped : (fs rest : List frame_type.Frame) (f : frame_type.Frame) → fs ≡ rest ++ f ∷ []
    → frame_of f ∷ frames_of rest ≡ frames_of fs
frames_of-popped fs rest f e = sym (ap frames_of e ∙ frames_of-append rest f)

pub closed_of-popped : (fs rest : List frame_type.Frame) (f : frame_type.Frame) (t : Expr) (p : List Frame × Tree)
    → fs ≡ rest ++ f ∷ [] → closed_of fs t ≡ p
    → (frame_of f ∷ frames_of rest, tree_of t) ≡ p
closed_of-popped fs rest f t p e same = ap (λ z. (z, tree_of t)) (frames_of-popped fs rest f e) ∙ same

pub close-frame : (k : ℕ) (f : Frame) (rest : List Frame) (t : Tree)
    → close k (f ∷ rest) t ≡ cond (binds k f) (close k rest (ended f t)) (f ∷ rest, t)
close-frame k (Front p) rest t = refl
close-frame k (Left l tails op) rest t = refl
close-frame k InParen rest t = refl
close-frame k (InCall x args o) rest t = refl
close-frame k (InItem h f) rest t = refl
close-frame k (InNamed h f x) rest t = refl
close-frame k (InAssign h f l) rest t = refl
close-frame k (InStmt ss n o) rest t = refl

pub ruleset frames = (frames_of-append)

pub ruleset closing = (frames_of-append, close-frame)

demand-frame : (f : Frame) (below : List Frame) → demand (f ∷ below) ≡ frame_demand f
demand-frame (Front p) below = refl
demand-frame (Left l tails op) below = refl
demand-frame InParen below = refl
demand-frame (InCall x args o) below = refl
demand-frame (InItem h f) below = refl
demand-frame (InNamed h f x) below = refl
demand-frame (InAssign h f l) below = refl
demand-frame (InStmt ss n o) below = refl

demand_same : (below : List Frame) (g f : frame_type.Frame) → g ≡ f
    → demand (frame_of g ∷ below) ≡ frame_demand (frame_of f)
demand_same below g f e = demand-frame (frame_of g) below ∙ ap (λ x. frame_demand (frame_of x)) e

demand_last : (below : List Frame) (fs : List frame_type.Frame) (i : ℕ) (f : frame_type.Frame) → slice_get fs i ≡ Some f
    → i + 1 ≡ length fs → demand (frames_over below fs) ≡ frame_demand (frame_of f)
demand_last below [] i f e h = absurd (omega arith)
demand_last below (g ∷ []) zero f e h = let same : Some g ≡ Some f = e in demand_same below g f cc
demand_last below (g ∷ []) (suc i) f e h = absurd (omega arith)
demand_last below (g ∷ k ∷ fs) zero f e h = absurd (omega arith)
demand_last below (g ∷ k ∷ fs) (suc i) f e h = demand_last (frame_of g ∷ below) (k ∷ fs) i f e (omega arith)

pub demand-last_of : (fs : List frame_type.Frame) (f : frame_type.Frame) → slice_get fs (length fs - 1) ≡ Some f
    → demand (frames_of fs) ≡ frame_demand (frame_of f)
demand-last_of [] f e = let same : ◌≡◌ {A = Option frame_type.Frame} None (Some f) = e in cc
demand-last_of (g ∷ fs) f e = demand_last [] (g ∷ fs) (length (g ∷ fs) - 1) f e (omega arith)
