use Rattle.na_ops.proofs.arithmetic.calculate.Goals as goal

pub returns-in-Lgl-Lgl : goal.returns-in-Lgl-Lgl
returns-in-Lgl-Lgl g c = rw (c.in-Lgl-Lgl.is-0, c.in-Lgl-Lgl.is-1) c.over.ensures

pub returns-in-Lgl-Int : goal.returns-in-Lgl-Int
returns-in-Lgl-Int g c = rw (c.in-Lgl-Int.is-0, c.in-Lgl-Int.is-1) c.over-in-Lgl-Int.ensures

pub returns-in-Int-Lgl : goal.returns-in-Int-Lgl
returns-in-Int-Lgl g c = rw (c.in-Int-Lgl.is-0, c.in-Int-Lgl.is-1) c.over-in-Int-Lgl.ensures

pub returns-in-Int-Int : goal.returns-in-Int-Int
returns-in-Int-Int g c = rw (c.in-Int-Int.is-0, c.in-Int-Int.is-1) c.over-in-Int-Int.ensures
