use Rattle.std.proofs.Common.{Some, ap, ◌∙◌}
use Rattle.dt_grammar.specs.Machine.{Have}
use Rattle.dt_grammar.proofs.Trees.{tree_of-Lit, tree_of-Null, tree_of-Infinite, tree_of-Name}
use Rattle.script_frames.specs.Frames.{frames_of}
use Rattle.dt_script.proofs.wanting.want.Goals as goal

pub returns-in-Literal : goal.returns-in-Literal
returns-in-Literal c = rw c.in-Literal.is
    (ap Some (c.came.ensures ∙ ap (Have (frames_of c.args.frames.items))
    (tree_of-Lit c.in-Literal.cell c.in-Literal.kind)))

pub returns-in-Null : goal.returns-in-Null
returns-in-Null c = rw c.in-Null.is (ap Some
    (c.came-in-Null.ensures ∙ ap (Have (frames_of c.args.frames.items)) tree_of-Null))

pub returns-in-Infinite : goal.returns-in-Infinite
returns-in-Infinite c = rw c.in-Infinite.is
    (ap Some (c.came-in-Infinite.ensures ∙ ap (Have (frames_of c.args.frames.items)) tree_of-Infinite))

pub returns-in-Name : goal.returns-in-Name
returns-in-Name c = rw c.in-Name.is (ap Some
    (c.came-in-Name.ensures ∙ ap (Have (frames_of c.args.frames.items)) (tree_of-Name c.in-Name.name)))
