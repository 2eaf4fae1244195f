use Rattle.std.proofs.Common.{rules, ◌≡◌, ◌∙◌, ap, ap₂, codes, true}
use Rattle.std.proofs.lemmas.Result.{IfOk-weaker}
use Rattle.clap.specs.Words.{App, app_of, new_app, with_subcommand}
use Rattle.mtr.specs.Options.{run_app, threads_app}
use Rattle.mtr.proofs.command_line.command.Goals as goal

abbrev top_of : App → App
top_of app = record app { top = record app.top { no_binary_name = true; subcommand_required = true; has_version = true; propagate_version = true } }

pub returns : goal.returns
returns c =
    let top : app_of c.subcommand_required.result ≡ top_of (new_app (codes "mtr")) = search rules in
    let run : app_of c.in_ok-subcommand.field-0 ≡ with_subcommand (top_of (new_app (codes "mtr"))) (run_app c.args.names).top =
    c.in_ok-subcommand.ensures.shape c.in_ok-run_command.ensures.local ∙ ap₂ with_subcommand top (ap (λ (a : App). a.top) c.in_ok-run_command.ensures.shape) in
    let threads : app_of c.in_ok-subcommand-2.field-0 ≡ with_subcommand (with_subcommand (top_of (new_app (codes "mtr"))) (run_app c.args.names).top) (threads_app c.args.names).top =
    c.in_ok-subcommand-2.ensures.shape c.in_ok-threads_command.ensures.local ∙ ap₂ with_subcommand run (ap (λ (a : App). a.top) c.in_ok-threads_command.ensures.shape) in
    IfOk-weaker c.subcommand-3.result _ _ (λ command added. added.shape c.decode_command.ensures.local ∙ ap₂ with_subcommand threads (ap (λ (a : App). a.top) c.decode_command.ensures.shape))
    c.subcommand-3.ensures
