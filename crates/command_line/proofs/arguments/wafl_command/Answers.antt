use Rattle.command_line.specs.Arguments.{wafl_app}
use Rattle.command_line.proofs.arguments.wafl_command.Goals as goal

pub returns : goal.returns
unfolding wafl_app
returns c = c.subcommand-10.ensures _ _ (c.subcommand-9.ensures _ _ (c.subcommand-8.ensures _ _ (c.subcommand-7.ensures _ _ (c.subcommand-6.ensures _ _ (c.subcommand-5.ensures _ _ (c.subcommand-4.ensures _ _ (c.subcommand-3.ensures _ _ (c.subcommand-2.ensures _ _ (c.subcommand.ensures _ _ (c.of.ensures _ c.program.ensures) c.make_command.ensures) c.run_command.ensures) c.shell_command.ensures) c.do_command.ensures) c.df_command.ensures) c.check_command.ensures) c.put_command.ensures) c.get_command.ensures) c.restore_command.ensures) c.serve_command.ensures
