use Rattle.std.proofs.Common.{Some, ◌||◌, refl, sym, ap, ◌∙◌}
use Rattle.layout.specs.StateLimits.{limits_of}
use Rattle.model.specs.Changing.{sets_mode}
use Rattle.model.specs.Volumes.{is_directory_node}
use Rattle.model.specs.declared.errno.Errno.TheVariants.{EBADF}
use Rattle.calls.specs.Changing.{ComesOrStays}
use Rattle.descriptors.specs.Tables.{table_of}
use Rattle.files.specs.Opened.{tree_with}
use Rattle.files.proofs.AttributeLaws.{open_told}
use Rattle.files.proofs.OpenLaws.{at_file, not_open}
use Rattle.files.proofs.Preparing.{leaves, refused_at_once}
use Rattle.files.proofs.fchmod.prepare_fchmod.Goals as goal

pub returns-in_default : goal.returns-in_default
returns-in_default g c = refused_at_once EBADF _ refl refl (λ disk settled v stands volume mounted fits.
    let table = c.args.table.now in
    not_open table v c.args.fd (λ d. sets_mode c.args.now (tree_with table v) d.number (Some c.args.mode)) (sym c.get.ensures.file ∙ c.in_default.is))

pub returns : goal.returns
returns g c = leaves c.set_mode.ensures (λ disk settled v stands volume mounted fits r comes.
    let table = c.args.table.now in
    let f = c.in-Some.file in
    let limits = limits_of c.args.inodes.now.geometry in
    let opened = sym c.get.ensures.file ∙ c.in-Some.is in
    open_told limits v table c.args.fd (λ d. sets_mode c.args.now (tree_with table v) d.number (Some c.args.mode)) f r opened
    (at_file v f (λ n. ComesOrStays (sets_mode c.args.now (tree_with table v) n (Some c.args.mode)) limits v (table_of table) r) c.new-number.ensures (fits.files c.args.fd f opened) (λ is. comes (ap (λ b. b || is_directory_node (v c.new-number.result)) is))))
