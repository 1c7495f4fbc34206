use Rattle.std.proofs.Common.{◌<◌, min, sym, ap, subst, arith}
use Rattle.std.specs.Option.{option_map}
use Rattle.model.specs.declared.limits.TheConstants.{OPEN_FILES}
use Rattle.descriptors.specs.Files.{description_of}
use Rattle.descriptors.specs.Shared.{shared_at}
use Rattle.descriptors.specs.Slots.{slot_at}
use Rattle.descriptors.specs.Tables.{table_of}
use Rattle.descriptors.proofs.LookLemmas.{lowest_is, none_free, open_some}
use Rattle.descriptors.proofs.TableLemmas.{files_none}
use Rattle.descriptors.proofs.table.Descriptors.lowest_free.Goals as goal

pub returns-then-fd-min-clause-lowest : goal.returns-then-fd-min-clause-lowest
returns-then-fd-min-clause-lowest c =
    let t = c.args.self.now in
    let fd = c.lowest_free-fd.result in
    sym (lowest_is (table_of t) (min c.args.below OPEN_FILES) fd (subst (λ k. fd < k) c.min.ensures c.if-fd-min.true) (none_free (table_of t) fd (λ d below. open_some t d (c.lowest_free-fd.ensures.below d below)))
    (ap (option_map description_of) (files_none (slot_at t.slots) (shared_at t.files) fd c.lowest_free-fd.ensures.free)))

pub returns-else-fd-min-clause-lowest : goal.returns-else-fd-min-clause-lowest
returns-else-fd-min-clause-lowest c =
    let t = c.args.self.now in
    sym (none_free (table_of t) (min c.args.below OPEN_FILES) (λ d below. open_some t d (c.lowest_free-fd.ensures.below d (omega (arith, below, c.min.ensures, c.if-fd-min.false)))))
