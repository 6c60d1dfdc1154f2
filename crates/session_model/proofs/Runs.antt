-- The run of statements one after another, against the plain evaluation.
--   Reached xs s0 w0 i s w n   the run has done i of the statements xs, and is in state s and world w
use Rattle.std.proofs.Common.{◌≡◌, ◌<◌, ◌+◌, ℕ, suc, List, [], ◌∷◌, Some, None, Ok, Err, drop, length, get_or, refl}
use Rattle.std.proofs.Common.{sym, ap, subst, ◌∙◌, arith, add-one, drop-cons}
use Rattle.dt_base.specs.declared.fault.Fault.{Fault}
use Rattle.session_model.specs.Session.{SessionState}
use Rattle.dt_tree.specs.declared.tree.Stmt.{Stmt}
use Rattle.session_model.specs.Evaluation.{Step, End, plain, goes_on, goes_on_to, Cut, sends, Did, IsEnd}
use Rattle.session_model.specs.Statement.{step}
use Rattle.session_model.specs.World.{World, after, Parted, pieces_of, fault_pieces, look}

-- The run has done i of the statements ls, and is in state s and world w.
pub record Reached (ls : List Stmt) (s0 : SessionState) (w0 : World) (i : ℕ) (s : SessionState) (w : World) (n : ℕ) :
    Type 0 where
  pub plain : plain ls s0 w0 0 ≡ plain (drop i ls) s w n
  pub done : n ≡ i
  pub cut : (j line : ℕ) (now : SessionState) (v : World) → Cut (drop i ls) j line s w now v
      → Cut ls (i + j) line s0 w0 now v

pub reached_first : (ls : List Stmt) (s : SessionState) (w : World) → Reached ls s w 0 s w 0
reached_first ls s w =
    record {
      plain = refl;
      done = refl;
      cut = λ j line now v h. let e : j ≡ 0 + j = omega arith in subst (λ k. Cut ls k line s w now v) e h;
    }

goes : (line : ℕ) (o : Step) (rest : SessionState → World → ℕ → End) (s s1 : SessionState) (w w1 : World) (n : ℕ)
    → Did line o s s1 w w1 → goes_on line o rest s w n ≡ rest s1 w1 (n + 1)
goes line (Ok e) rest s s1 w w1 n h = rw (h.0, h.1) refl
goes line (Err f) rest s s1 w w1 n h = absurd h

goes_to : (line : ℕ) (o : Step) (rest : SessionState → World → Type 0) (s s1 : SessionState) (w w1 : World)
    → Did line o s s1 w w1 → rest s1 w1 → goes_on_to line o rest s w
goes_to line (Ok e) rest s s1 w w1 h r = subst (λ t. rest t (after w (pieces_of line e))) h.0
    (subst (λ u. rest s1 u) h.1 r)
goes_to line (Err f) rest s s1 w w1 h r = absurd h

-- what is left of the statements at i
left_at : (ls : List Stmt) (i : ℕ) (l : Stmt) → i < length ls → l ≡ get_or ls i l → drop i ls ≡ l ∷ drop (i + 1) ls
left_at ls i l h e = drop-cons ls i l h ∙ rw (add-one i, ← e) refl

pub reached_next : (ls : List Stmt) (s0 : SessionState) (w0 : World) (i : ℕ) (l : Stmt) (s s1 : SessionState)
    (w w1 : World) (n : ℕ) → Reached ls s0 w0 i s w n → i < length ls → l ≡ get_or ls i l
    → Did l.line (step (look w.files) s l) s s1 w w1 → Reached ls s0 w0 (i + 1) s1 w1 (n + 1)
reached_next ls s0 w0 i l s s1 w w1 n r h e d =
    record {
      plain = r.plain ∙ ap (λ xs. plain xs s w n) (left_at ls i l h e)
          ∙ goes l.line (step (look w.files) s l) (plain (drop (i + 1) ls)) s s1 w w1 n d;
      done = ap (λ k. k + 1) r.done;
      cut = λ j line now v k.
          let more : Cut (drop i ls) (suc j) line s w now v = subst (λ xs. Cut xs (suc j) line s w now v)
          (sym (left_at ls i l h e)) (goes_to l.line (step (look w.files) s l)
          (λ t u. Cut (drop (i + 1) ls) j line t u now v) s s1 w w1 d k) in
          let same : i + suc j ≡ (i + 1) + j = omega arith in
          subst (λ m. Cut ls m line s0 w0 now v) same (r.cut (suc j) line now v more);
    }

-- the statement at i is refused with this fault, and its line is put
ended : (l : Stmt) (o : Step) (f : Fault) (rest : SessionState → World → ℕ → End) (s now : SessionState) (w v : World)
    (n : ℕ) → o ≡ Err f → now ≡ s → v ≡ after w (fault_pieces l.line f) → goes_on l.line o rest s w n
    ≡ record { state = now; world = v; done = n; fault = Some (l.line, f) }
ended l o f rest s now w v n is a b = rw (is, a, b) refl

-- the statement at i is cut off
pub cut_here : (ls : List Stmt) (s0 : SessionState) (w0 : World) (i : ℕ) (l : Stmt) (s now : SessionState)
    (w v : World) (n line : ℕ) → Reached ls s0 w0 i s w n → i < length ls → l ≡ get_or ls i l → line ≡ l.line → now
    ≡ s → Parted w (sends l.line (step (look w.files) s l)) v → Cut ls n line s0 w0 now v
cut_here ls s0 w0 i l s now w v n line r h e a b p =
    let here : Cut (drop i ls) 0 line s w now v = subst (λ xs. Cut xs 0 line s w now v) (sym (left_at ls i l h e))
    (a, b, p) in
    let same : i + 0 ≡ n = omega (arith, r.done) in
    subst (λ m. Cut ls m line s0 w0 now v) same (r.cut 0 line now v here)

-- the run ends at a refused statement
pub ends_refused : (ls : List Stmt) (s0 : SessionState) (w0 : World) (i : ℕ) (l : Stmt) (s now : SessionState)
    (w v : World) (n : ℕ) (f : Fault) → Reached ls s0 w0 i s w n → i < length ls → l ≡ get_or ls i l → now ≡ s
    → step (look w.files) s l ≡ Err f → v ≡ after w (fault_pieces l.line f) → plain ls s0 w0 0
    ≡ record { state = now; world = v; done = n; fault = Some (l.line, f) }
ends_refused ls s0 w0 i l s now w v n f r h e b c d =
    r.plain ∙ ap (λ xs. plain xs s w n) (left_at ls i l h e)
    ∙ ended l (step (look w.files) s l) f (plain (drop (i + 1) ls)) s now w v n c b d

nothing_left : (ls : List Stmt) → drop (length ls) ls ≡ []
nothing_left [] = refl
nothing_left (l ∷ ls) = nothing_left ls

pub ends_done : (ls : List Stmt) (s0 : SessionState) (w0 : World) (s : SessionState) (w : World) (n : ℕ)
    → Reached ls s0 w0 (length ls) s w n → IsEnd (plain ls s0 w0 0) s w
ends_done ls s0 w0 s w n r =
    let e : plain ls s0 w0 0 ≡ record { state = s; world = w; done = n; fault = None } = r.plain
    ∙ ap (λ xs. plain xs s w n) (nothing_left ls) in
    (ap (λ x. x.fault) e, ap (λ x. x.state) e, ap (λ x. x.world) e)
