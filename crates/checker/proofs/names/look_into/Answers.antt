use Rattle.std.proofs.Common.{◌≡◌, ◌∙◌, ℕ, ◌+◌, ◌/◌, List, sym, ap, subst}
use Rattle.std.specs.Prelude.{IfSome}
use Rattle.layout.specs.Inode.{IsInode}
use Rattle.layout.specs.Limits.{Sizes}
use Rattle.layout.specs.declared.root.Root.{Root}
use Rattle.images.specs.Nodes.{file_block}
use Rattle.images.specs.Roots.{whole}
use Rattle.images.specs.Soundness.{by_sizes}
use Rattle.model.proofs.OptionLaws.{none_some, some_same}
use Rattle.checker.specs.Errors.{halt}
use Rattle.checker.specs.Findings.{IsTreeFinding, tree_in}
use Rattle.checker.specs.Rows.{LeadsToRow}
use Rattle.checker.specs.Trees.{IsTreeAt}
use Rattle.checker.specs.Walks.{HasCountedRows, HasFile}
use Rattle.checker.specs.declared.error.CheckError.TheVariants as check
use Rattle.checker.proofs.FoundLaws.{goes_none}
use Rattle.checker.proofs.HaltLaws.{looks_failed, looks_more, looks_residual, passes_residual}
use Rattle.checker.proofs.ReadLaws.{looked, looked_more, looked_none, looks_ok, looks_passed}
use Rattle.checker.proofs.StepLaws.{device_halt, directory, directory_readable, has_file, looked_into, passes_halt, to_count}
use Rattle.checker.proofs.names.look_into.Given.{Over}
use Rattle.checker.proofs.names.look_into.Goals as goal
use Rattle.checker.proofs.names.look_into.Goals.{In_ok-file}

-- ---- the directory's inode and file

inode : (g : Over) (c : In_ok-file g) (disk : ℕ → List ℕ) (r : Root) → g.B.Blocks.Shows c.args.blocks.now disk → IsTreeAt disk r c.args.geometry (g.B.Blocks.count c.args.blocks.now) c.args.tree.now
    → LeadsToRow disk r (c.args.directory / 21) c.args.tree.now c.args.place → c.in-Some.inode ≡ (tree_in (whole disk r) c.args.tree.now.plane c.args.directory).inode
inode g c disk r shows at leads = some_same (sym c.in-Some.is ∙ c.in_ok-inode.ensures.is disk r c.args.tree.now shows at leads)

file : (g : Over) (c : In_ok-file g) (disk : ℕ → List ℕ) (r : Root) → g.B.Blocks.Shows c.args.blocks.now disk → IsTreeAt disk r c.args.geometry (g.B.Blocks.count c.args.blocks.now) c.args.tree.now
    → LeadsToRow disk r (c.args.directory / 21) c.args.tree.now c.args.place → HasFile (g.B.Blocks.count c.read_inode.new.blocks) disk c.in_ok-file.file (tree_in (whole disk r) c.args.tree.now.plane c.args.directory)
file g c disk r shows at leads =
    let i = c.in-Some.inode in
    let f = c.in_ok-file.file in
    has_file disk r c.args.tree.now c.args.directory (g.B.Blocks.count c.read_inode.new.blocks) i f at.tree at.grammar (inode g c disk r shows at leads) (c.in_ok-inode.ensures.reads.count ∙ at.over.count) c.in_ok-file.ensures.size
    (c.in_ok-file.ensures.held by_sizes r.geometry disk) (λ k held readable. c.based_trees_are_sound.ensures.at by_sizes r.geometry disk i f.tree k held readable c.in_ok-file.ensures.base)

pub load-requires : goal.load-requires
load-requires g c =
    let fits : IsInode c.args.geometry c.in-Some.inode = subst (λ o. IfSome o (IsInode c.args.geometry)) c.in-Some.is c.in_ok-inode.ensures.fits in
    fits.size

pub returns-in_err-inode-clause-reads : goal.returns-in_err-inode-clause-reads
returns-in_err-inode-clause-reads g c =
    looks_passed c.from_residual.result halt device_halt c.from_residual.ensures.1 (looked_none _) (looked c.in_err-inode.ensures.reads) c.in_err-inode.ensures.reads.device

pub returns-in_err-inode-clause-goes : goal.returns-in_err-inode-clause-goes
returns-in_err-inode-clause-goes g c = goes_none _ _

pub returns-in_err-inode-clause-looked : goal.returns-in_err-inode-clause-looked
returns-in_err-inode-clause-looked g c = λ disk r e count shows at before next leads. passes_halt _ _ c.from_residual.result _ c.from_residual.ensures.1

pub returns-in_default-clause-reads : goal.returns-in_default-clause-reads
returns-in_default-clause-reads g c = looks_failed (looked c.in_ok-inode.ensures.reads) (λ is. cc)

pub returns-in_default-clause-goes : goal.returns-in_default-clause-goes
returns-in_default-clause-goes g c = goes_none _ _

pub returns-in_default-clause-looked : goal.returns-in_default-clause-looked
returns-in_default-clause-looked g c = λ disk r e count shows at before next leads.
    none_some (sym c.in_default.is ∙ c.in_ok-inode.ensures.is disk r c.args.tree.now shows at leads)

pub returns-in_err-file-clause-reads : goal.returns-in_err-file-clause-reads
returns-in_err-file-clause-reads g c =
    looks_residual {T = Unit {0}} c.from_residual-in_err-file.result c.from_residual-in_err-file.ensures.1 (looks_failed (looked c.in_ok-inode.ensures.reads) (λ is. cc))

pub returns-in_err-file-clause-goes : goal.returns-in_err-file-clause-goes
returns-in_err-file-clause-goes g c = goes_none _ _

pub returns-in_err-file-clause-looked : goal.returns-in_err-file-clause-looked
returns-in_err-file-clause-looked g c = λ disk r e count shows at before next leads. passes_halt _ _ c.from_residual-in_err-file.result check.NoMemory c.from_residual-in_err-file.ensures.1

pub returns-in_err-count_blocks-clause-reads : goal.returns-in_err-count_blocks-clause-reads
returns-in_err-count_blocks-clause-reads g c =
    looks_more _ (looked c.in_ok-inode.ensures.reads) (looks_residual c.from_residual-in_err-count_blocks.result c.from_residual-in_err-count_blocks.ensures.1 c.in_err-count_blocks.ensures.reads)

pub returns-in_err-count_blocks-clause-looked : goal.returns-in_err-count_blocks-clause-looked
returns-in_err-count_blocks-clause-looked g c = λ disk r e count shows at before next leads.
    let t = tree_in (whole disk r) c.args.tree.now.plane in
    let d = c.args.directory in
    let done = (goal.at.returns-in_err-count_blocks-clause-looked g c).In_ok-file in
    let held = file g done disk r shows at leads in
    passes_residual (λ (_ : Unit {0}). Unit {0}) _ (IsTreeFinding r t) c.from_residual-in_err-count_blocks.result _ c.from_residual-in_err-count_blocks.ensures.1
    (c.in_err-count_blocks.ensures.counted disk r t e (count + 1) (c.in_ok-inode.ensures.reads.same disk shows) (ap (λ (s : Sizes). s.inodes) at.over.geometry ∙ sym c.inodes.ensures.value) held
    (to_count r.geometry t e count c.args.found.now.items c.args.table.now.items d before next))

pub returns-clause-reads : goal.returns-clause-reads
returns-clause-reads g c = looks_ok (looked_more (looked c.in_ok-inode.ensures.reads) (looked c.in_ok-count_blocks.ensures.reads))

pub returns-clause-looked : goal.returns-clause-looked
returns-clause-looked g c = λ disk r e count shows at before next leads.
    let t = tree_in (whole disk r) c.args.tree.now.plane in
    let d = c.args.directory in
    let i = c.in-Some.inode in
    let f = c.in_ok-file.file in
    let done = (goal.at.returns-clause-looked g c).In_ok-file in
    let is = inode g done disk r shows at leads in
    let held = file g done disk r shows at leads in
    let counted = c.in_ok-count_blocks.ensures.counted disk r t e (count + 1) (c.in_ok-inode.ensures.reads.same disk shows) (ap (λ (s : Sizes). s.inodes) at.over.geometry ∙ sym c.inodes.ensures.value) held
    (to_count r.geometry t e count c.args.found.now.items c.args.table.now.items d before next) in
    let readable = directory_readable disk r c.args.tree.now d (g.B.Blocks.count c.read_inode.new.blocks) i f at.tree at.grammar is (directory r.geometry t e count c.args.found.now.items c.args.table.now.items d before next)
    c.in_ok-file.ensures.size c.in_ok-file.ensures.settled c.in_ok-file.ensures.unchanged (c.in_ok-count_blocks.ensures.sound disk (c.in_ok-inode.ensures.reads.same disk shows)) in
    looked_into r.geometry t e count c.args.found.now.items c.args.table.now.items d before next readable _ _ c.in_ok-count_blocks.ensures.goes.keeps
    (subst (λ (s : ℕ). HasCountedRows r.geometry t d (s / 4096) (file_block (t d)) e (count + 1) c.count_blocks.new.found.items c.count_blocks.new.table.items) held.size_is counted)
