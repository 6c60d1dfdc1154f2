-- How far an outermost chain has come, as the code holds it.
--   stage_of s     the stage s of the definitions
use Rattle.dt_misplaced.specs.declared.outer.Stage as code
use Rattle.dt_misplaced.specs.declared.outer.Stage.TheVariants as stage
use Rattle.run_model.specs.Misplaced.{Stage, Free, Assigned, Over}

abbrev pub stage_of : code.Stage → Stage
stage_of stage.Free = Free
stage_of stage.Assigned = Assigned
stage_of stage.Over = Over
