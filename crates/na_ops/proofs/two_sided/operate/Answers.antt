use Rattle.na_ops.proofs.two_sided.operate.Goals as goal

pub returns-in-Add : goal.returns-in-Add
returns-in-Add c = rw c.in-Add.is c.calculate.ensures

pub returns-in-Sub : goal.returns-in-Sub
returns-in-Sub c = rw c.in-Sub.is c.calculate-in-Sub.ensures

pub returns-in-Mul : goal.returns-in-Mul
returns-in-Mul c = rw c.in-Mul.is c.calculate-in-Mul.ensures

pub returns-in-Div : goal.returns-in-Div
returns-in-Div c = rw c.in-Div.is c.calculate-in-Div.ensures

pub returns-in-Mod : goal.returns-in-Mod
returns-in-Mod c = rw c.in-Mod.is c.calculate-in-Mod.ensures

pub returns-in-Eq : goal.returns-in-Eq
returns-in-Eq c = rw c.in-Eq.is c.compare.ensures

pub returns-in-Ne : goal.returns-in-Ne
returns-in-Ne c = rw c.in-Ne.is c.compare-in-Ne.ensures

pub returns-in-Lt : goal.returns-in-Lt
returns-in-Lt c = rw c.in-Lt.is c.compare-in-Lt.ensures

pub returns-in-Le : goal.returns-in-Le
returns-in-Le c = rw c.in-Le.is c.compare-in-Le.ensures

pub returns-in-Gt : goal.returns-in-Gt
returns-in-Gt c = rw c.in-Gt.is c.compare-in-Gt.ensures

pub returns-in-Ge : goal.returns-in-Ge
returns-in-Ge c = rw c.in-Ge.is c.compare-in-Ge.ensures

pub returns-in-And : goal.returns-in-And
returns-in-And c = rw c.in-And.is c.connect.ensures

pub returns-in-Or : goal.returns-in-Or
returns-in-Or c = rw c.in-Or.is c.connect-in-Or.ensures
