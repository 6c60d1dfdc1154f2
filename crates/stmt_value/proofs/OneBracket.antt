-- What a bracket gives behind a value, where the value is not shown.
use Rattle.std.proofs.Common.{◌≡◌, ℕ, false, not, if◌then◌else◌, List, sym, ap}
use Rattle.dt_model.specs.State.{State}
use Rattle.session_model.specs.Meanings.{BracketMeaning}
use Rattle.session_model.specs.Query.{bracketed, shown_after}
use Rattle.session_model.specs.Value.{Given}
use Rattle.stmt_value.specs.Chains.{answered}

pub bracketed_unshown : (s : State) (word : List ℕ) (g : Given) (b : BracketMeaning) → g.shown ≡ false → shown_after g b ≡ bracketed s word g b
bracketed_unshown s word g b e = ap (λ x. if not x then shown_after g b else answered s word g b) (sym e)
