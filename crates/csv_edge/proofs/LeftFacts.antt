-- What a reader has left, before and after a read.
use Rattle.std.proofs.Common.{◌≡◌, ◌<◌, ◌+◌, ℕ, zero, suc, List, [], ◌∷◌, Bool, true, false, Option, None, Some, IsSome}
use Rattle.std.proofs.Common.{unwrap_or, length, refl, sym, ap, ◌∙◌, subst, arith, add-one, inl, true≢false}
use Rattle.std.specs.Borrow.{Bor}
use Rattle.std.specs.Bool.{MatchBool}
use Rattle.csv.specs.Machine.{Read, next_record, ends_at_end}
use Rattle.csv.specs.Reading.{records_from, records_next, Reached, ReadRecord, default_config, reader_state, took_first}
use Rattle.csv.specs.declared.parser.Config.{Config}
use Rattle.csv.specs.declared.parser.State.{State}
use Rattle.csv.specs.declared.reader.Reader.{Reader}
use Rattle.csv.proofs.ReadFacts.{rows-end, rows-more}
use Rattle.csv_edge.specs.Left.{unread, left, IsOpen}
use Rattle.csv_edge.proofs.OneRecord.{read_settles, read_takes}
use Rattle.run_model.specs.Csv.{Record}

-- the same step on two bounds that are both large enough
bound_next : (cfg : Config) (n m : ℕ) (s : State) (xs : List ℕ)
    → ((p : Read) → next_record cfg s [] [] xs ≡ Some p → records_from cfg n p.1 p.2 ≡ records_from cfg m p.1 p.2)
    → (o : Option Read) → next_record cfg s [] [] xs ≡ o
    → records_next (records_from cfg n) o ≡ records_next (records_from cfg m) o
bound_next cfg n m s xs same None e = refl
bound_next cfg n m s xs same (Some p) e = ap (λ rest. p.0 ∷ rest) (same p e)

-- the bound on the number of records does not matter once it passes the number of bytes
pub bound_free : (cfg : Config) (n m : ℕ) (s : State) (xs : List ℕ)
    → length xs < n → length xs < m → ends_at_end s ≡ false → records_from cfg n s xs ≡ records_from cfg m s xs
unfolding records_from
bound_free cfg zero m s xs a b h = absurd (omega arith)
bound_free cfg (suc n) zero s xs a b h = absurd (omega arith)
bound_free cfg (suc n) (suc m) s xs a b h =
    bound_next cfg n m s xs
    (λ p e. let less : length p.2 < length xs = read_takes cfg xs s p h e in
    bound_free cfg n m p.1 p.2 (omega arith) (omega arith) (read_settles cfg xs s [] [] p e))
    (next_record cfg s [] [] xs) refl

-- one step of the records of a text
records_step : (cfg : Config) (n : ℕ) (s : State) (xs : List ℕ)
    → records_from cfg (n + 1) s xs ≡ records_next (records_from cfg n) (next_record cfg s [] [] xs)
unfolding records_from
records_step cfg n s xs = rw add-one refl

-- what is left, by the bytes that are not read
pub left_at : (a : Reader (Bor (List ℕ))) (y : List ℕ) → unread a ≡ Some y
    → left a ≡ records_from default_config (length y + 1) (reader_state a) y
left_at a y e = ap (λ o. records_from default_config (length (unwrap_or o []) + 1) (reader_state a) (unwrap_or o [])) e

-- the bytes of an open reader
known_bytes : (o : Option (List ℕ)) → IsSome o → (y : List ℕ) × (o ≡ Some y)
known_bytes None h = absurd (true≢false (sym h))
known_bytes (Some y) h = (y, refl)

-- a read that found no record: none is left
pub left_none : (a b : Reader (Bor (List ℕ))) (f : Record) → IsOpen a
    → ReadRecord (λ (text : Bor (List ℕ)). Some text.now) a b false f → left a ≡ []
left_none a b f stands r =
    let k = known_bytes (unread a) stands.known in
    let none = rows-end (λ (text : Bor (List ℕ)). Some text.now) a b f default_config k.0 stands.config k.1 r in
    left_at a k.0 k.1 ∙ (records_step default_config (length k.0) (reader_state a) k.0
    ∙ ap (records_next (records_from default_config (length k.0))) none)

-- the records of a text, where the first one is known
first_and_rest : (y z : List ℕ) (s t : State) (f : Record) (p : Read) → ends_at_end s ≡ false
    → next_record default_config s [] [] y ≡ Some p → f ≡ p.0 → p.1 ≡ t → p.2 ≡ z
    → records_from default_config (length y + 1) s y ≡ f ∷ records_from default_config (length z + 1) t z
first_and_rest y z s t f p between e ef et ez =
    rw (records_step default_config (length y) s y, e, ef, ← et, ← ez)
    (ap (λ rest. p.0 ∷ rest)
    (bound_free default_config (length y) (length p.2 + 1) p.1 p.2 (read_takes default_config y s p between e)
    (omega arith)
    (read_settles default_config y s [] [] p e)))

-- a read that found a record: it is the first that was left, and the reader is open again
pub left_some : (a b : Reader (Bor (List ℕ))) (f : Record) → IsOpen a
    → ReadRecord (λ (text : Bor (List ℕ)). Some text.now) a b true f → took_first b ≡ true
    → IsOpen b × (left a ≡ f ∷ left b)
unfolding Reached
left_some a b f stands r first =
    let rem : Bor (List ℕ) → Option (List ℕ) = λ text. Some text.now in
    let k = known_bytes (unread a) stands.known in
    let m = rows-more rem a b f default_config (reader_state a) k.0 k.0 [] stands.config k.1 (refl, refl) r in
    let p : Read = m.2.0 in
    let open_again : ends_at_end (reader_state b) ≡ false =
    subst (λ s. ends_at_end s ≡ false) m.2.3.0 (read_settles default_config k.0 (reader_state a) [] [] p m.2.1) in (
      record {
        plain = r.3 ∙ stands.plain;
        ready = inl first;
        config = r.2 ∙ stands.config;
        known = subst IsSome (sym m.1) refl;
        between = open_again;
      },
      left_at a k.0 k.1
          ∙ (first_and_rest k.0 m.0 (reader_state a) (reader_state b) f p stands.between m.2.1 m.2.2 m.2.3.0 m.2.3.1
          ∙ ap (λ rest. f ∷ rest) (sym (left_at b m.0 m.1))),
    )

-- what a read says of what is left, before it and after it
pub left_after : (found : Bool) (a b : Reader (Bor (List ℕ))) (f : Record) → IsOpen a → took_first b ≡ true
    → ReadRecord (λ (text : Bor (List ℕ)). Some text.now) a b found f
    → (found ≡ true → IsOpen b) × MatchBool found (left a ≡ f ∷ left b) (left a ≡ [])
left_after true a b f stands first reads = let m = left_some a b f stands reads first in (λ _. m.0, m.1)
left_after false a b f stands first reads = (λ e. absurd (true≢false (sym e)), left_none a b f stands reads)
