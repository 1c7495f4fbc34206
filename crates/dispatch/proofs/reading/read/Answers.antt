use Rattle.std.proofs.Common.{rules, List, ℕ, w64, refl}
use Rattle.std.proofs.lemmas.Int.{to_z-of_z}
use Rattle.model.specs.declared.command.PathCall.TheVariants as path_calls
use Rattle.dispatch.proofs.AskingLaws.{entries_behind, fails, gets_at, gives}
use Rattle.dispatch.proofs.ChangingLaws.{one_text}
use Rattle.dispatch.proofs.reading.read.Goals as goal

pub returns-in_err-names-in-List-clause-tells : goal.returns-in_err-names-in-List-clause-tells
returns-in_err-names-in-List-clause-tells g c =
    fails c.args.call.now (path_calls.List c.as_bytes.result.now) (one_text c.args.call.now path_calls.List c.in-List.path _ c.in-List.is c.as_bytes.ensures) _ c.from_residual.result c.from_residual.ensures.1 (λ errno. refl) c.in_err-names-in-List.ensures

pub returns-in_ok-names-in-List-clause-tells : goal.returns-in_ok-names-in-List-clause-tells
returns-in_ok-names-in-List-clause-tells g c =
    gives c.args.call.now (path_calls.List c.as_bytes.result.now) (one_text c.args.call.now path_calls.List c.in-List.path _ c.in-List.is c.as_bytes.ensures) c.in_ok-names-in-List.ensures

pub returns-in_err-entries-in-Entries-clause-tells : goal.returns-in_err-entries-in-Entries-clause-tells
returns-in_err-entries-in-Entries-clause-tells g c =
    let path = c.as_bytes-in-Entries.result.now in
    fails c.args.call.now (path_calls.Entries path c.in-Entries.after c.in-Entries.count)
    (one_text c.args.call.now (λ (p : List ℕ). path_calls.Entries p c.in-Entries.after c.in-Entries.count) c.in-Entries.path _ c.in-Entries.is c.as_bytes-in-Entries.ensures) _
    c.from_residual-in_err-entries-in-Entries.result c.from_residual-in_err-entries-in-Entries.ensures.1 (λ errno. refl)
    (entries_behind path c.in-Entries.count (to_z-of_z w64 c.in-Entries.after (search rules)) c.in_err-entries-in-Entries.ensures)

pub returns-in_ok-entries-in-Entries-clause-tells : goal.returns-in_ok-entries-in-Entries-clause-tells
returns-in_ok-entries-in-Entries-clause-tells g c =
    let path = c.as_bytes-in-Entries.result.now in
    gives c.args.call.now (path_calls.Entries path c.in-Entries.after c.in-Entries.count)
    (one_text c.args.call.now (λ (p : List ℕ). path_calls.Entries p c.in-Entries.after c.in-Entries.count) c.in-Entries.path _ c.in-Entries.is c.as_bytes-in-Entries.ensures)
    (entries_behind path c.in-Entries.count (to_z-of_z w64 c.in-Entries.after (search rules)) c.in_ok-entries-in-Entries.ensures)

pub returns-in_err-stat-in-Stat-clause-tells : goal.returns-in_err-stat-in-Stat-clause-tells
returns-in_err-stat-in-Stat-clause-tells g c =
    fails c.args.call.now (path_calls.Stat c.as_bytes-in-Stat.result.now) (one_text c.args.call.now path_calls.Stat c.in-Stat.path _ c.in-Stat.is c.as_bytes-in-Stat.ensures) _ c.from_residual-in_err-stat-in-Stat.result c.from_residual-in_err-stat-in-Stat.ensures.1 (λ errno. refl) c.in_err-stat-in-Stat.ensures

pub returns-in_ok-stat-in-Stat-clause-tells : goal.returns-in_ok-stat-in-Stat-clause-tells
returns-in_ok-stat-in-Stat-clause-tells g c =
    gives c.args.call.now (path_calls.Stat c.as_bytes-in-Stat.result.now) (one_text c.args.call.now path_calls.Stat c.in-Stat.path _ c.in-Stat.is c.as_bytes-in-Stat.ensures) c.in_ok-stat-in-Stat.ensures

pub returns-in_err-stat-in-Lstat-clause-tells : goal.returns-in_err-stat-in-Lstat-clause-tells
returns-in_err-stat-in-Lstat-clause-tells g c =
    fails c.args.call.now (path_calls.Lstat c.as_bytes-in-Lstat.result.now) (one_text c.args.call.now path_calls.Lstat c.in-Lstat.path _ c.in-Lstat.is c.as_bytes-in-Lstat.ensures) _ c.from_residual-in_err-stat-in-Lstat.result c.from_residual-in_err-stat-in-Lstat.ensures.1 (λ errno. refl) c.in_err-stat-in-Lstat.ensures

pub returns-in_ok-stat-in-Lstat-clause-tells : goal.returns-in_ok-stat-in-Lstat-clause-tells
returns-in_ok-stat-in-Lstat-clause-tells g c =
    gives c.args.call.now (path_calls.Lstat c.as_bytes-in-Lstat.result.now) (one_text c.args.call.now path_calls.Lstat c.in-Lstat.path _ c.in-Lstat.is c.as_bytes-in-Lstat.ensures) c.in_ok-stat-in-Lstat.ensures

pub returns-in_err-told-in-Attr-clause-tells : goal.returns-in_err-told-in-Attr-clause-tells
returns-in_err-told-in-Attr-clause-tells g c =
    let of = λ (p : List ℕ). path_calls.Attr p c.in-Attr.follows in
    fails c.args.call.now (of c.as_bytes-in-Attr.result.now) (one_text c.args.call.now of c.in-Attr.path _ c.in-Attr.is c.as_bytes-in-Attr.ensures) _ c.from_residual-in_err-told-in-Attr.result c.from_residual-in_err-told-in-Attr.ensures.1 (λ errno. refl) c.in_err-told-in-Attr.ensures

pub returns-in_ok-told-in-Attr-clause-tells : goal.returns-in_ok-told-in-Attr-clause-tells
returns-in_ok-told-in-Attr-clause-tells g c =
    let of = λ (p : List ℕ). path_calls.Attr p c.in-Attr.follows in
    gives c.args.call.now (of c.as_bytes-in-Attr.result.now) (one_text c.args.call.now of c.in-Attr.path _ c.in-Attr.is c.as_bytes-in-Attr.ensures) c.in_ok-told-in-Attr.ensures

pub returns-in_err-text-in-Readlink-clause-tells : goal.returns-in_err-text-in-Readlink-clause-tells
returns-in_err-text-in-Readlink-clause-tells g c =
    fails c.args.call.now (path_calls.Readlink c.as_bytes-in-Readlink.result.now) (one_text c.args.call.now path_calls.Readlink c.in-Readlink.path _ c.in-Readlink.is c.as_bytes-in-Readlink.ensures) _ c.from_residual-in_err-text-in-Readlink.result c.from_residual-in_err-text-in-Readlink.ensures.1 (λ errno. refl) c.in_err-text-in-Readlink.ensures

pub returns-in_ok-text-in-Readlink-clause-tells : goal.returns-in_ok-text-in-Readlink-clause-tells
returns-in_ok-text-in-Readlink-clause-tells g c =
    gives c.args.call.now (path_calls.Readlink c.as_bytes-in-Readlink.result.now) (one_text c.args.call.now path_calls.Readlink c.in-Readlink.path _ c.in-Readlink.is c.as_bytes-in-Readlink.ensures) c.in_ok-text-in-Readlink.ensures

pub returns-in_err-bytes-in-Get-clause-tells : goal.returns-in_err-bytes-in-Get-clause-tells
returns-in_err-bytes-in-Get-clause-tells g c =
    let path = c.as_bytes-in-Get.result.now in
    fails c.args.call.now (path_calls.Get path c.in-Get.offset c.in-Get.count)
    (one_text c.args.call.now (λ (p : List ℕ). path_calls.Get p c.in-Get.offset c.in-Get.count) c.in-Get.path _ c.in-Get.is c.as_bytes-in-Get.ensures) _
    c.from_residual-in_err-bytes-in-Get.result c.from_residual-in_err-bytes-in-Get.ensures.1 (λ errno. refl)
    (gets_at path c.in-Get.count (to_z-of_z w64 c.in-Get.offset (search rules)) c.in_err-bytes-in-Get.ensures)

pub returns-in_ok-bytes-in-Get-clause-tells : goal.returns-in_ok-bytes-in-Get-clause-tells
returns-in_ok-bytes-in-Get-clause-tells g c =
    let path = c.as_bytes-in-Get.result.now in
    gives c.args.call.now (path_calls.Get path c.in-Get.offset c.in-Get.count)
    (one_text c.args.call.now (λ (p : List ℕ). path_calls.Get p c.in-Get.offset c.in-Get.count) c.in-Get.path _ c.in-Get.is c.as_bytes-in-Get.ensures)
    (gets_at path c.in-Get.count (to_z-of_z w64 c.in-Get.offset (search rules)) c.in_ok-bytes-in-Get.ensures)
