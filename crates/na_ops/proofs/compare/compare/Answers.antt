use Rattle.na_ops.proofs.compare.compare.Goals as goal

pub returns-in-Lgl-Lgl : goal.returns-in-Lgl-Lgl
returns-in-Lgl-Lgl g c = rw (c.in-Lgl-Lgl.is-0, c.in-Lgl-Lgl.is-1) c.over.ensures

pub returns-in-Lgl-Int : goal.returns-in-Lgl-Int
returns-in-Lgl-Int g c = rw (c.in-Lgl-Int.is-0, c.in-Lgl-Int.is-1) c.over-in-Lgl-Int.ensures

pub returns-in-Int-Lgl : goal.returns-in-Int-Lgl
returns-in-Int-Lgl g c = rw (c.in-Int-Lgl.is-0, c.in-Int-Lgl.is-1) c.over-in-Int-Lgl.ensures

pub returns-in-Int-Int : goal.returns-in-Int-Int
returns-in-Int-Int g c = rw (c.in-Int-Int.is-0, c.in-Int-Int.is-1) c.over-in-Int-Int.ensures

pub returns-in-Chr-Lgl : goal.returns-in-Chr-Lgl
returns-in-Chr-Lgl g c = rw (c.in-Chr-Lgl.is-0, c.in-Chr-Lgl.is-1)
    (rw c.in-Chr-Lgl.is-1 at c.compare_texts_left.ensures)

pub returns-in-Chr-Int : goal.returns-in-Chr-Int
returns-in-Chr-Int g c = rw (c.in-Chr-Int.is-0, c.in-Chr-Int.is-1)
    (rw c.in-Chr-Int.is-1 at c.compare_texts_left-in-Chr-Int.ensures)

pub returns-in-Chr-Chr : goal.returns-in-Chr-Chr
returns-in-Chr-Chr g c = rw (c.in-Chr-Chr.is-0, c.in-Chr-Chr.is-1)
    (rw c.in-Chr-Chr.is-1 at c.compare_texts_left-in-Chr-Chr.ensures)

pub returns-in-Lgl-Chr : goal.returns-in-Lgl-Chr
returns-in-Lgl-Chr g c = rw (c.in-Lgl-Chr.is-0, c.in-Lgl-Chr.is-1)
    (rw c.in-Lgl-Chr.is-0 at c.compare_texts_right.ensures)

pub returns-in-Int-Chr : goal.returns-in-Int-Chr
returns-in-Int-Chr g c = rw (c.in-Int-Chr.is-0, c.in-Int-Chr.is-1)
    (rw c.in-Int-Chr.is-0 at c.compare_texts_right-in-Int-Chr.ensures)
