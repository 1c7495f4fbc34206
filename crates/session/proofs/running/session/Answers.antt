use Rattle.std.proofs.Common.{refl}
use Rattle.session.specs.Scripts.{lines_of}
use Rattle.session.proofs.ScriptLemmas.{no_bad_line}
use Rattle.session.proofs.running.session.Goals as goal

pub returns-clause-bad_line : goal.returns-clause-bad_line
returns-clause-bad_line g c = λ bad. absurd (no_bad_line (lines_of c.args.script.now) c.in-Ok.commands.items c.in-Ok.ensures.commands bad.0 bad.1.0 bad.1.1)

pub returns-in-Ok-mount-clause-bad_line : goal.returns-in-Ok-mount-clause-bad_line
returns-in-Ok-mount-clause-bad_line g c = λ bad. absurd (no_bad_line (lines_of c.args.script.now) c.in-Ok.commands.items c.in-Ok.ensures.commands bad.0 bad.1.0 bad.1.1)

pub returns-in-Ok-mount-clause-ends : goal.returns-in-Ok-mount-clause-ends
returns-in-Ok-mount-clause-ends g c =
    let ran = c.run_mounted-status.ensures.ends in
    record {
      commands = c.in-Ok.commands.items;
      script_is = c.in-Ok.ensures.commands;
      steps = ran.0;
      ran = record { fs = c.in-Ok-mount.fs; is_mounted = record { goes = c.in-Ok-mount.ensures.goes; going = c.in-Ok-mount.ensures.going; finds = c.in-Ok-mount.ensures.opens; found = c.in-Ok-mount.ensures.found }; runs = ran.1 };
      shows = rw c.as_slice.ensures.value at ran.2;
      tells = refl;
    }

pub returns-clause-ends : goal.returns-clause-ends
returns-clause-ends g c = record {
  has = record {
    commands = c.in-Ok.commands.items;
    script_is = c.in-Ok.ensures.commands;
    goes = c.in-Err-mount.ensures.goes;
    refusal = record {
      device = c.in-Err-mount.ensures.device;
      no_root = c.in-Err-mount.ensures.no_root;
      rootless = c.in-Err-mount.ensures.rootless;
      faultless = c.in-Err-mount.ensures.faultless;
      opens = c.in-Err-mount.ensures.opens;
    };
  };
  shows = refl;
  tells = c.tell-in-Err-mount.ensures.tells;
}
