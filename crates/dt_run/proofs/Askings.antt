-- What words ask for, by what `clap` answers.
use Rattle.std.proofs.Common.{◌≡◌, ◌≢◌, ◌∙◌, ℕ, Bool, true, false, List, [], ◌∷◌, Option, None, option_map}
use Rattle.std.proofs.Common.{refl, ap, subst, codes, inl, inr, cond, arith, length, ne_eqb}
use Rattle.std.specs.Borrow.{Bor}
use Rattle.clap.specs.Walk.{is_empty}
use Rattle.clap.specs.declared.error.Error.{Error}
use Rattle.clap.specs.Words.{App, HasKind, HasMatchesOf, Kinds, IsAmong, Text, fault_of, first_value}
use Rattle.clap.specs.Words.{found_of, is_simple, is_simple_and_free, kind_of, rows_of, takes}
use Rattle.clap.specs.declared.error.kind.ErrorKind.{ErrorKind}
use Rattle.clap.specs.declared.error.kind.ErrorKind.TheVariants.{OutOfMemory}
use Rattle.clap.specs.declared.parser.matches.Found.{Found}
use Rattle.clap.specs.declared.parser.matches.ArgMatches.{ArgMatches}
use Rattle.clap.proofs.OnLiterals.{clap_on_literals}
use Rattle.clap.proofs.WalkLemmas.{first_value-rows}
use Rattle.dt_run.specs.Given.{meant}
use Rattle.dt_run.specs.Words.{Asked as Meant, LacksScript, all_asked, dtq, is_checked, is_taken, rows_asked}
use Rattle.dt_run.specs.declared.words.Asked.{Asked}

pub simple : is_simple dtq ≡ true
unfolding clap_on_literals
simple = refl

pub free : is_simple_and_free dtq ≡ true
unfolding clap_on_literals
free = refl

-- what is asked for, by the two values that are read
pub by_values : (f : Found) (script check : Option (Bor (List ℕ))) (on : Bool)
    → option_map (λ s. s.now) script ≡ first_value f (codes "script")
    → option_map (λ s. s.now) check ≡ first_value f (codes "check") → on ≡ is_checked (option_map (λ s. s.now) check)
    → option_map (λ q. record { script = q; is_check = on }) (option_map (λ s. s.now) script) ≡ rows_asked (rows_of f)
by_values f script check on s c o =
    rw (o, s ∙ first_value-rows f (codes "script"), c ∙ first_value-rows f (codes "check")) refl

-- a kind that is among them
some_kind : (ks : Kinds) (k : ErrorKind) → IsAmong k ks → is_empty ks ≡ false
some_kind [] k h = absurd h
some_kind (x ∷ xs) k h = let long : length (x ∷ xs) ≢ 0 = λ e. omega (arith, e) in ne_eqb (length (x ∷ xs)) 0 long

-- a refusal for another cause than memory
refused_taken : (all : List Text) (e : Error) → HasKind (fault_of dtq all) e → kind_of e ≢ OutOfMemory
    → is_taken all ≡ false
refused_taken all e h other =
    elim h [
      | inl memory ↦ absurd (other memory)
      | inr among ↦ some_kind (fault_of dtq all) (kind_of e) among
    ]

none_by : (b : Bool) (o : Option Meant) → b ≡ false → None ≡ cond b o None
none_by b o h = rw h refl

-- refused words ask for nothing
pub refused_asks : (a : App) (all : List Text) (e : Error) (o : Option Asked) → a ≡ dtq
    → (is_simple_and_free a ≡ true → HasKind (fault_of a all) e) → (o ≡ None) × (kind_of e ≢ OutOfMemory)
    → option_map meant o ≡ all_asked all
refused_asks a all e o is fails none =
    let fault : is_simple_and_free dtq ≡ true → HasKind (fault_of dtq all) e =
    subst (λ (x : App). is_simple_and_free x ≡ true → HasKind (fault_of x all) e) is fails in
    rw (none.0) (none_by (is_taken all) _ (refused_taken all e (fault free) none.1))

not_true : (b : Bool) → (b ≡ true → ⊥) → b ≡ false
not_true true h = absurd (h refl)
not_true false h = refl

-- the command does not take them
pub refused_lacks : (a : App) (all : List Text) (e : Error) → a ≡ dtq → (takes a all ≡ true → kind_of e ≡ OutOfMemory)
    → kind_of e ≢ OutOfMemory → LacksScript all
refused_lacks a all e is passes other =
    let only : takes dtq all ≡ true → kind_of e ≡ OutOfMemory =
    subst (λ (x : App). takes x all ≡ true → kind_of e ≡ OutOfMemory) is passes in
    inl (not_true (takes dtq all) (λ t. other (only t)))

-- words that were taken
pub taken_asks : (a : App) (all : List Text) (m : ArgMatches) (o : Option Asked) → a ≡ dtq
    → (is_simple_and_free a ≡ true → fault_of a all ≡ []) → HasMatchesOf a all m
    → option_map meant o ≡ rows_asked (rows_of (found_of m)) → option_map meant o ≡ all_asked all
taken_asks a all m o is fails matches asks =
    let none : is_simple_and_free dtq ≡ true → fault_of dtq all ≡ [] =
    subst (λ (x : App). is_simple_and_free x ≡ true → fault_of x all ≡ []) is fails in
    let found : HasMatchesOf dtq all m = subst (λ (x : App). HasMatchesOf x all m) is matches in
    rw (none free) (asks ∙ ap rows_asked (found simple).0)
