-- One statement: its effect, what was put of it, and its change.
use Rattle.std.proofs.Common.{◌≡◌, ◌∙◌, ℕ, List, Ok, Err, ap, subst, sym}
use Rattle.dt_tree.specs.declared.tree.Stmt.{Stmt}
use Rattle.dt_world.specs.Told.{appended}
use Rattle.dt_world.specs.declared.traits.WriteFail.{WriteFail}
use Rattle.dt_world.specs.declared.traits.WriteFail.TheVariants as write
use Rattle.run_model.specs.Messages.{printed_warns}
use Rattle.session_model.proofs.Parts.{parted_none}
use Rattle.session_model.specs.Effect as model
use Rattle.session_model.specs.Effect.{changed}
use Rattle.session_model.specs.Evaluation.{Step, Did}
use Rattle.session_model.specs.Session.{SessionState}
use Rattle.session_model.specs.World.{World, Parted, after, pieces_of}
use Rattle.stmt_change.specs.Effects.{plain_change, plain_effect}
use Rattle.stmt_change.specs.declared.effect.Effect.{Effect}
use Rattle.file_value.specs.Answers.{Gives}
use Rattle.file_value.specs.Reads.{FilesSeen, OnlyReads}
use Rattle.file_value.specs.declared.fail.ValueFail.{ValueFail}
use Rattle.file_value.specs.declared.fail.ValueFail.TheVariants as value
use Rattle.table_heap.specs.Seen.{HeapSeen}
use Rattle.table_heap.specs.Changes.{HoldsSame}
use Rattle.dt_session.specs.Answers.{PartOf, PutsNothing, Refused, prepared_effect, sent}
use Rattle.dt_session.specs.Execs.{IsExec, step_in}
use Rattle.dt_session.specs.Fails.{of_value, of_write}
use Rattle.dt_session.specs.Outside.{Outside, SinkSeen, Tells, outside, world_of}
use Rattle.dt_session.specs.Puts.{IsSent}
use Rattle.dt_session.specs.Session.{SessionSeen, heaped, state_of}
use Rattle.dt_session.specs.declared.session.Prepared.{Prepared}
use Rattle.dt_session.proofs.Counts.{counted_later, counted_read, counted_sent, counted_unread, counted_unsent}

-- ---- A statement whose effect was not had

part_none : (line : ℕ) (o : Step) (w v : World) → v ≡ w → PartOf line o w v
part_none line (Ok e) w v same = parted_none w v (pieces_of line e) same
part_none line (Err f) w v same = same

unread_refused : (line : ℕ) (o : Step) (w v : World) (h : HeapSeen) (e : ValueFail) → v ≡ w
    → Gives (prepared_effect h) o (Err e) → Refused line o w v (of_value e)
unread_refused line o w v h (value.Stop f) same is = (is, same)
unread_refused line o w v h value.ReadFault same is = same
unread_refused line o w v h (value.NoMemory x) same is = part_none line o w v same

unread_nothing : (w v : World) (e : ValueFail) → v ≡ w → PutsNothing w v (of_value e)
unread_nothing w v (value.Stop f) same = same
unread_nothing w v value.ReadFault same = same
unread_nothing w v (value.NoMemory x) same = tt

-- the files tell what they told
read_world : (o n : FilesSeen) (out err : SinkSeen) → n.held ≡ o.held
    → world_of (outside n out err) ≡ world_of (outside o out err)
read_world o n out err held = λ i. record { files = held i; out = out.bytes; err = err.bytes }

pub exec_unread : {F : Type 0} (see : F → FilesSeen) (x : Stmt) (s t : SessionSeen) (o n : F) (out err : SinkSeen)
    (e : ValueFail) → HoldsSame s.heap t.heap → t.options ≡ s.options
    → (Tells (outside (see o) out err)
    → Gives (prepared_effect s.heap) (step_in x s (outside (see o) out err)) (Err e))
    → OnlyReads {B = Prepared} see o n (Err e)
    → IsExec x s t (outside (see o) out err) (outside (see n) out err) (Err (of_value e))
exec_unread see x s t o n out err e same options told reads =
    let world = read_world (see o) (see n) out err reads.held in
    record {
      done = λ t. tt;
      refused = λ t. unread_refused x.line _ _ _ s.heap e world (told t);
      same = same;
      options = options;
      nothing = unread_nothing _ _ e world;
      warned = tt;
      counted = counted_unread Prepared see o n e out err reads;
    }

-- ---- A statement whose effect was sent, or a first part of it

-- what was sent is what the effect gives
sent_pieces : (line : ℕ) (h : HeapSeen) (e : Effect) (lines : List ℕ) → lines ≡ printed_warns line e.warns
    → sent e lines ≡ pieces_of line (plain_effect h e)
sent_pieces line h e lines is = ap (sent e) is

part_of : (line : ℕ) (o : Step) (e : model.Effect) (w v : World) → o ≡ Ok e → Parted w (pieces_of line e) v
    → PartOf line o w v
part_of line o e w v is part = subst (λ (x : Step). PartOf line x w v) (sym is) part

unsent_refused : (line : ℕ) (o : Step) (w v : World) (e : WriteFail) → PartOf line o w v
    → Refused line o w v (of_write e)
unsent_refused line o w v write.Failed part = part
unsent_refused line o w v (write.NoMemory x) part = part

unsent_nothing : (w v : World) (e : WriteFail) → PutsNothing w v (of_write e)
unsent_nothing w v write.Failed = tt
unsent_nothing w v (write.NoMemory x) = tt

pub exec_unsent : {F : Type 0} (see : F → FilesSeen) (x : Stmt) (s t : SessionSeen) (o n : F) (out err : SinkSeen)
    (v : Outside) (p : Prepared) (e : WriteFail) → HoldsSame s.heap t.heap → t.options ≡ s.options
    → (Tells (outside (see o) out err)
    → Gives (prepared_effect s.heap) (step_in x s (outside (see o) out err)) (Ok p))
    → p.lines.items ≡ printed_warns x.line p.effect.warns
    → OnlyReads see o n (Ok p) → IsSent (outside (see n) out err) v (sent p.effect p.lines.items) (Err e)
    → IsExec x s t (outside (see o) out err) v (Err (of_write e))
exec_unsent see x s t o n out err v p e same options told lines reads puts =
    let world = read_world (see o) (see n) out err reads.held in
    let part : Parted (world_of (outside (see o) out err)) (pieces_of x.line (prepared_effect s.heap p)) (world_of v) =
    subst (λ q. Parted (world_of (outside (see o) out err)) q (world_of v))
    (sent_pieces x.line s.heap p.effect p.lines.items lines)
    (subst (λ w. Parted w (sent p.effect p.lines.items) (world_of v)) world puts.part) in
    record {
      done = λ t. tt;
      refused = λ t. unsent_refused x.line _ _ _ e (part_of x.line _ (prepared_effect s.heap p) _ _ (told t) part);
      same = same;
      options = options;
      nothing = unsent_nothing _ _ e;
      warned = tt;
      counted =
          counted_later _ (outside (see n) out err) v (Err (of_write e)) (counted_read see o n p out err reads)
          (counted_unsent _ v _ e puts);
    }

did : (line : ℕ) (o : Step) (e : model.Effect) (s now : SessionState) (w v : World) → o ≡ Ok e
    → now ≡ changed s e.change → v ≡ after w (pieces_of line e) → Did line o s now w v
did line o e s now w v is state world = subst (λ (x : Step). Did line x s now w v) (sym is) (state, world)

-- the change was made to names and tables of which spare room alone had become more
from_reserved : (s : SessionSeen) (h : HeapSeen) (now : SessionState) (before reserved : model.Change)
    → heaped h s.options ≡ state_of s → reserved ≡ before → now ≡ changed (heaped h s.options) reserved
    → now ≡ changed (state_of s) before
from_reserved s h now before reserved same change is =
    is ∙ ap (λ k. changed k reserved) same ∙ ap (changed (state_of s)) change

pub exec_done : {F : Type 0} (see : F → FilesSeen) (x : Stmt) (s t : SessionSeen) (h : HeapSeen) (o n : F)
    (out err : SinkSeen) (v : Outside) (p : Prepared) → heaped h s.options ≡ state_of s
    → plain_change h p.effect.change ≡ plain_change s.heap p.effect.change
    → heaped t.heap t.options ≡ changed (heaped h s.options) (plain_change h p.effect.change)
    → (Tells (outside (see o) out err)
    → Gives (prepared_effect s.heap) (step_in x s (outside (see o) out err)) (Ok p))
    → p.lines.items ≡ printed_warns x.line p.effect.warns
    → OnlyReads see o n (Ok p) → IsSent (outside (see n) out err) v (sent p.effect p.lines.items) (Ok tt)
    → IsExec x s t (outside (see o) out err) v (Ok tt)
exec_done see x s t h o n out err v p same change made told lines reads puts =
    let world = read_world (see o) (see n) out err reads.held in
    let all : world_of v ≡ after (world_of (outside (see o) out err)) (pieces_of x.line (prepared_effect s.heap p)) =
    puts.ok ∙ ap (λ w. after w (sent p.effect p.lines.items)) world
    ∙ ap (after (world_of (outside (see o) out err))) (sent_pieces x.line s.heap p.effect p.lines.items lines) in
    let state = from_reserved s h (state_of t) (plain_change s.heap p.effect.change) _ same change made in
    record {
      done = λ t. did x.line _ (prepared_effect s.heap p) _ _ _ _ (told t) state all;
      refused = λ t. tt;
      same = tt;
      options = tt;
      nothing = tt;
      warned = record { warns = p.effect.warns; lines = puts.lines ∙ ap (appended err.bytes) lines };
      counted =
          counted_later _ (outside (see n) out err) v (Ok tt) (counted_read see o n p out err reads)
          (counted_sent _ v _ puts);
    }
