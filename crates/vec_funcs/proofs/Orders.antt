-- The order of cells is one that has a least and a greatest.
use Rattle.std.proofs.Common.{◌≡◌, Bool, true, false, Option, None, Some, is_some, refl}
use Rattle.std.specs.Cmp.{IsTotalOrder, int_cmp_total}
use Rattle.std.specs.Cmp.Lexicographic.{nat_list_cmp_total}
use Rattle.std.specs.declared.cmp.Ordering.{Ordering}
use Rattle.std.proofs.lemmas.List.MinMax.{ranks_by}
use Rattle.dt_base.specs.declared.cell.Cell.{Cell}
use Rattle.dt_base.specs.declared.cell.ColType.{ColType}
use Rattle.dt_base.specs.declared.cell.ColType.TheVariants as ty
use Rattle.dt_model.specs.Operations.{number, text, order_of}
use Rattle.vector_model.specs.Functions.{is_less, is_before}
use Rattle.vec_funcs.specs.Ranks.{has_rank}
use Rattle.vec_funcs.specs.Sides.{beats}
use Rattle.vec_funcs.specs.declared.extremes.Side.{Side}
use Rattle.vec_funcs.specs.declared.extremes.Side.TheVariants.{Least, Greatest}

-- Of two cells at most one beats the other. What does not beat a ranked cell does not beat what that
-- one does not beat. What has no rank neither beats nor is beaten.
pub record Picks (ranked : Cell → Bool) (beats : Cell → Cell → Bool) : Type 0 where
  pub one_way : (a b : Cell) → beats a b ≡ true → beats b a ≡ false
  pub chain : (a b c : Cell) → ranked b ≡ true → beats a b ≡ false → beats b c ≡ false → beats a c ≡ false
  pub beats_none : (a b : Cell) → ranked a ≡ false → beats a b ≡ false
  pub beaten_by_none : (a b : Cell) → ranked a ≡ false → beats b a ≡ false

-- the same of keys that may be missing
less_one_way : {K : Type 0} {R : K → K → Ordering} (o : IsTotalOrder R) (a b : Option K) →
    is_less (order_of R a b) ≡ true → is_less (order_of R b a) ≡ false
less_one_way o None None h = refl
less_one_way o None (Some b) h = refl
less_one_way o (Some a) None h = refl
less_one_way {K} o (Some a) (Some b) h = let key : K → K = λ x. x in (ranks_by o key).one_way a b h

less_chain : {K : Type 0} {R : K → K → Ordering} (o : IsTotalOrder R) (a b c : Option K) →
    is_some b ≡ true → is_less (order_of R a b) ≡ false → is_less (order_of R b c) ≡ false
    → is_less (order_of R a c) ≡ false
less_chain o None b c s h k = refl
less_chain o (Some a) b None s h k = refl
less_chain o (Some a) None (Some c) s h k = cc
less_chain {K} o (Some a) (Some b) (Some c) s h k = let key : K → K = λ x. x in (ranks_by o key).chain a b c h k

none_less : {K : Type 0} (R : K → K → Ordering) (a b : Option K) → is_some a ≡ false → is_less (order_of R a b) ≡ false
none_less R None b h = refl
none_less R (Some a) b h = cc

none_more : {K : Type 0} (R : K → K → Ordering) (a b : Option K) → is_some a ≡ false → is_less (order_of R b a) ≡ false
none_more R None None h = refl
none_more R None (Some b) h = refl
none_more R (Some a) b h = cc

-- what stands before
picks_before : (t : ColType) → Picks (has_rank t) (is_before t)
picks_before ty.Lgl = record {
  one_way = λ a b. less_one_way int_cmp_total (number a) (number b);
  chain = λ a b c. less_chain int_cmp_total (number a) (number b) (number c);
  beats_none = λ a b. none_less _ (number a) (number b);
  beaten_by_none = λ a b. none_more _ (number a) (number b);
}
picks_before ty.Int = record {
  one_way = λ a b. less_one_way int_cmp_total (number a) (number b);
  chain = λ a b c. less_chain int_cmp_total (number a) (number b) (number c);
  beats_none = λ a b. none_less _ (number a) (number b);
  beaten_by_none = λ a b. none_more _ (number a) (number b);
}
picks_before ty.Chr = record {
  one_way = λ a b. less_one_way nat_list_cmp_total (text a) (text b);
  chain = λ a b c. less_chain nat_list_cmp_total (text a) (text b) (text c);
  beats_none = λ a b. none_less _ (text a) (text b);
  beaten_by_none = λ a b. none_more _ (text a) (text b);
}

-- what is taken, on either side
pub picks : (side : Side) (t : ColType) → Picks (has_rank t) (beats side t)
picks Least t = picks_before t
picks Greatest t = let o = picks_before t in record {
  one_way = λ a b. o.one_way b a;
  chain = λ a b c s h k. o.chain c b a s k h;
  beats_none = λ a b. o.beaten_by_none a b;
  beaten_by_none = λ a b. o.beats_none a b;
}
