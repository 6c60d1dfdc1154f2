use Rattle.stmt_value.proofs.reports.report_value.Goals as goal

pub returns-clause-live : goal.returns-clause-live
returns-clause-live c = c.told_value.ensures.live c.args.setting.now.heap.now
