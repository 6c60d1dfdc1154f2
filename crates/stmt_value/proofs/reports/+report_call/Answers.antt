use Rattle.std.proofs.Common.{◌∙◌, ap, sym}
use Rattle.func_table.specs.Calls.{func_of}
use Rattle.stmt_value.specs.Reports.{reported}
use Rattle.stmt_value.proofs.Reporting.{call_is_other, call_is_report, other_is, paren_is}
use Rattle.stmt_value.proofs.reports.+report_call.Goals as goal

pub returns-in-Some : goal.returns-in-Some
returns-in-Some t c =
    call_is_report c.args.e.now c.in-Call.name c.in-Call.args
    (record { func = c.in-Some.func; args = c.as_slice.result }) c.in-Call.is
    (ap (λ x. reported (func_of x)) (sym c.as_str.ensures) ∙ (sym c.reported.ensures ∙ c.in-Some.is)) c.as_slice.ensures
