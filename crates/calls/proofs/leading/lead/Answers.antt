use Rattle.std.proofs.Common.{rules, ◌≡◌, ◌∙◌, inl, None, sym}
use Rattle.std.proofs.lemmas.Result.{IfOk-weaker}
use Rattle.layout.specs.StateLimits.{limits_of}
use Rattle.model.specs.Paths.{first_refusal, text_tests}
use Rattle.model.specs.Volumes.{tree_of}
use Rattle.paths.proofs.Looks.{looks_ok}
use Rattle.calls.proofs.LeadLaws.{led_by}
use Rattle.calls.proofs.RefusalLaws.{text_own}
use Rattle.records.specs.Failures.{read_outcome}
use Rattle.records.proofs.StandLaws.{no_look}
use Rattle.calls.proofs.leading.lead.Goals as goal

pub returns-in-Some : goal.returns-in-Some
returns-in-Some g c =
    let is = sym c.refusal_of_path.ensures ∙ c.in-Some.is in
    record {
      looks = looks_ok no_look;
      within = tt;
      own = text_own (limits_of c.args.inodes.now.geometry) c.args.path.now c.in-Some.errno is;
      leads = λ disk settled v table stands volume. inl is;
      followed = λ disk settled v stands volume follow. tt;
      damaged = λ disk settled v stands bad. cc;
    }

pub returns : goal.returns
returns g c =
    let passed : first_refusal (text_tests (limits_of c.args.inodes.now.geometry) c.args.path.now) ≡ None = search rules in
    let all = c.find_object.ensures in
    record {
      looks = all.looks;
      within = all.within;
      own = all.own;
      leads = λ disk settled v table stands volume.
          IfOk-weaker (read_outcome c.find_object.result) _ _
          (λ found leads. led_by (text_tests (limits_of c.args.inodes.now.geometry) c.args.path.now) (tree_of v table) v c.args.follow c.args.path.now found passed leads)
          (all.leads disk settled v table stands volume);
      followed = all.followed;
      damaged = all.damaged;
    }
