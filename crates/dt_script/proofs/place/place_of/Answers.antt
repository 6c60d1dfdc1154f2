use Rattle.std.proofs.Common.{sym, ap, ◌∙◌, length}
use Rattle.run_model.specs.Places.{place_at}
use Rattle.run_model.specs.Tokens.{unmarked}
use Rattle.dt_script.proofs.FaultPlaces.{fault_place-some, fault_place-none}
use Rattle.dt_script.proofs.place.place_of.Goals as goal

pub returns-in-Some : goal.returns-in-Some
returns-in-Some c = sym (fault_place-some (unmarked c.args.bytes.now) c.args.tokens.now c.args.at c.in-Some.placed.now
    c.in-Some.ensures.lookup.3.0 c.in-Some.ensures.lookup.1)

pub returns-in-None : goal.returns-in-None
returns-in-None c =
    c.end_of.ensures ∙ ap (λ s. place_at s (length s)) c.unmarked.ensures
    ∙ sym (fault_place-none (unmarked c.args.bytes.now) c.args.tokens.now c.args.at c.in-None.ensures.lookup.3)
