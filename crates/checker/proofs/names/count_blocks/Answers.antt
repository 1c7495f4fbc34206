use Rattle.std.proofs.Common.{◌≡◌, ◌∙◌, ℕ, ◌/◌, ◌<◌, ◌≤◌, ◌^◌, List, [], Err, sym, ap, subst, arith, inl, inr}
use Rattle.std.proofs.lemmas.Bool.{cases_lt}
use Rattle.std.proofs.lemmas.Option.{slice_get_within}
use Rattle.layout.specs.Directory.{HoldsEntries}
use Rattle.layout.specs.declared.kind.Kind.TheVariants.{Directory}
use Rattle.blocktree.specs.Trees.{IsAtLocation, IsSoundAt, OnDisk}
use Rattle.blocktree.specs.declared.tree.Location.{Location}
use Rattle.images.specs.Nodes.{file_block}
use Rattle.checker.specs.Findings.{IsTreeFinding}
use Rattle.checker.specs.Walks.{HasCountedRows, IsAwaited}
use Rattle.checker.specs.declared.error.CheckEnd.{CheckEnd}
use Rattle.checker.specs.declared.fault.DirectoryFault.TheVariants as directory_faults
use Rattle.checker.specs.declared.fault.Fault.TheVariants as faults
use Rattle.checker.proofs.FoundLaws.{goes_more, goes_none}
use Rattle.checker.proofs.HaltLaws.{if_ok, on_ok, looks_failed, looks_more, looks_of, looks_or_fault, looks_residual, passes_or_fault, passes_residual}
use Rattle.checker.proofs.NameLaws.{awaited_block, rows_more, rows_none, with_row}
use Rattle.checker.proofs.ReadLaws.{looked_more, looked_none, looked_of, looks_ok}
use Rattle.checker.proofs.names.count_blocks.Goals as goal

pub loop-i-init : goal.loop-i-init
loop-i-init g c = record {
  looked = looked_none _;
  goes = goes_none _ _;
  counted = λ disk r t e count shows same file start. (
    record { names = e; rows = λ i. []; has = rows_none r.geometry.inodes (file_block (t c.args.directory)) c.args.directory e start.none; way = start.way },
    c.none-names.ensures (e c.args.directory) start.none,
  );
  sound = λ disk shows i low. absurd (omega (arith, low));
}

pub bytes-bytes-requires : goal.bytes-bytes-requires
bytes-bytes-requires g c =
    let fault = faults.Directory (directory_faults.Entries c.args.directory c.loop-i.i) in
    if_ok (λ l. OnDisk l (g.B.Blocks.IsResident c.locate.new.blocks)) fault c.locate.result c.in_ok-location.location c.in_ok-location.ensures c.locate.ensures.resident

pub loop-i-preserved : goal.loop-i-preserved
loop-i-preserved g c =
    let so_far = c.loop-i.invariant in
    let i = c.loop-i.i in
    let d = c.args.directory in
    let fault = faults.Directory (directory_faults.Entries d i) in record {
      looked = looked_more so_far.looked (looked_of g.met.B.Blocks.reads_nothing g.met.B.UncachedReads.grows c.locate.ensures.reads);
      goes = goes_more so_far.goes c.in_ok-count_entries.ensures.goes;
      counted = λ disk r t e count shows same file start.
          let before = so_far.counted disk r t e count shows same file start in
          let h = before.0 in
          let now = so_far.looked.same disk shows in
          let at = if_ok (IsAtLocation disk c.args.file.now.tree i) fault c.locate.result c.in_ok-location.location c.in_ok-location.ensures (c.locate.ensures.found disk now) in
          let bytes : c.bytes-bytes.result.now ≡ file_block (t d) i = c.bytes-bytes.ensures disk (c.locate.ensures.reads.same disk now) at ∙ file.block_is i in
          let limit : r.geometry.inodes ≤ 2 ^ 32 = omega (arith, same) in
          let kind : (t d).inode.kind ≡ Directory = (start.way.counted.reached d (start.among.0, slice_get_within _ start.among.0 d start.among.2, start.among.2)).0 in
          let low : i < (t d).inode.size / 4096 = subst (λ (s : ℕ). i < s / 4096) (c.size.ensures.value ∙ file.size_is) c.loop-i-test.true in
          let done = c.in_ok-count_entries.ensures.counted r t h.names count same h.way (start.among.0, start.among.1, so_far.goes.keeps start.among.0 d start.among.2) before.1
          (λ q. subst (IsAwaited r.geometry.inodes q.volume d h.names) (sym bytes) (awaited_block r.geometry.inodes t d i h.rows e h.names q limit kind low h.has)) in
          let k = done.0 in (
            record {
              names = k.names;
              rows = with_row i k.added h.rows;
              has = rows_more r.geometry.inodes i (file_block (t d)) d h.rows k.added e h.names k.names h.has (subst (λ (b : List ℕ). HoldsEntries r.geometry.inodes b k.added) bytes k.holds) k.adds;
              way = k.way;
            },
            done.1,
          );
      sound = λ disk shows j low. elim (cases_lt j i) [
        | inl before ↦ so_far.sound disk shows j before
        | inr last ↦
            let same : i ≡ j = omega (arith, low, last) in
            subst (IsSoundAt (g.B.Blocks.count c.args.blocks.now) disk c.args.file.now.tree) same
            (subst (λ (n : ℕ). IsSoundAt n disk c.args.file.now.tree i) so_far.looked.count
            (on_ok (IsSoundAt (g.B.Blocks.count c.loop-i.blocks) disk c.args.file.now.tree i) fault c.locate.result c.in_ok-location.location c.in_ok-location.ensures (c.locate.ensures.sound disk (so_far.looked.same disk shows))))
      ];
    }

pub returns-in_err-location-clause-reads : goal.returns-in_err-location-clause-reads
returns-in_err-location-clause-reads g c =
    looks_more _ c.loop-i.invariant.looked (looks_residual c.from_residual.result c.from_residual.ensures.1
    (looks_or_fault (faults.Directory (directory_faults.Entries c.args.directory c.loop-i.i)) c.locate.result _ c.in_err-location.ensures (looks_of g.met.B.Blocks.reads_nothing g.met.B.UncachedReads.grows c.locate.ensures.reads)))

pub returns-in_err-location-clause-counted : goal.returns-in_err-location-clause-counted
returns-in_err-location-clause-counted g c = λ disk r t e count shows same file start.
    let fault = faults.Directory (directory_faults.Entries c.args.directory c.loop-i.i) in
    passes_residual (λ (_ : Location). Unit {0}) _ (IsTreeFinding r t) c.from_residual.result _ c.from_residual.ensures.1
    (passes_or_fault (λ (_ : Location). Unit {0}) (IsTreeFinding r t) fault c.locate.result _ c.in_err-location.ensures
    (λ damaged.
    let kind : (t c.args.directory).inode.kind ≡ Directory = (start.way.counted.reached c.args.directory (start.among.0, slice_get_within _ start.among.0 c.args.directory start.among.2, start.among.2)).0 in (
      λ names. c.locate.ensures.damaged disk (c.loop-i.invariant.looked.same disk shows) damaged
          (subst (λ (n : ℕ). IsSoundAt n disk c.args.file.now.tree c.loop-i.i) (sym c.loop-i.invariant.looked.count) (file.sound (names.readable c.args.directory kind) c.loop-i.i)),
      kind,
    )))

pub returns-in_err-count_entries-clause-reads : goal.returns-in_err-count_entries-clause-reads
returns-in_err-count_entries-clause-reads g c =
    looks_more _ (looked_more c.loop-i.invariant.looked (looked_of g.met.B.Blocks.reads_nothing g.met.B.UncachedReads.grows c.locate.ensures.reads))
    (looks_residual {T = Unit {0}} c.from_residual-in_err-count_entries.result c.from_residual-in_err-count_entries.ensures.1
    (looks_failed (looked_none _) (λ is. absurd (c.in_err-count_entries.ensures.device (ap (λ (e : CheckEnd). Err e) is)))))

pub returns-in_err-count_entries-clause-goes : goal.returns-in_err-count_entries-clause-goes
returns-in_err-count_entries-clause-goes g c = goes_more c.loop-i.invariant.goes c.in_err-count_entries.ensures.goes

pub returns-in_err-count_entries-clause-counted : goal.returns-in_err-count_entries-clause-counted
returns-in_err-count_entries-clause-counted g c = λ disk r t e count shows same file start.
    let so_far = c.loop-i.invariant in
    let i = c.loop-i.i in
    let d = c.args.directory in
    let fault = faults.Directory (directory_faults.Entries d i) in
    let before = so_far.counted disk r t e count shows same file start in
    let h = before.0 in
    let now = so_far.looked.same disk shows in
    let at = if_ok (IsAtLocation disk c.args.file.now.tree i) fault c.locate.result c.in_ok-location.location c.in_ok-location.ensures (c.locate.ensures.found disk now) in
    let bytes : c.bytes-bytes.result.now ≡ file_block (t d) i = c.bytes-bytes.ensures disk (c.locate.ensures.reads.same disk now) at ∙ file.block_is i in
    let limit : r.geometry.inodes ≤ 2 ^ 32 = omega (arith, same) in
    let kind : (t d).inode.kind ≡ Directory = (start.way.counted.reached d (start.among.0, slice_get_within _ start.among.0 d start.among.2, start.among.2)).0 in
    let low : i < (t d).inode.size / 4096 = subst (λ (s : ℕ). i < s / 4096) (c.size.ensures.value ∙ file.size_is) c.loop-i-test.true in
    passes_residual (λ (_ : Unit {0}). Unit {0}) _ (IsTreeFinding r t) c.from_residual-in_err-count_entries.result _ c.from_residual-in_err-count_entries.ensures.1
    (c.in_err-count_entries.ensures.counted r t h.names count same h.way (start.among.0, start.among.1, so_far.goes.keeps start.among.0 d start.among.2) before.1
    (λ q. subst (IsAwaited r.geometry.inodes q.volume d h.names) (sym bytes) (awaited_block r.geometry.inodes t d i h.rows e h.names q limit kind low h.has)))

pub returns-clause-reads : goal.returns-clause-reads
returns-clause-reads g c = looks_ok c.loop-i.invariant.looked

pub returns-clause-counted : goal.returns-clause-counted
returns-clause-counted g c = λ disk r t e count shows same file start.
    let end : c.size.result / 4096 ≡ c.args.file.now.size / 4096 = ap (λ (s : ℕ). s / 4096) c.size.ensures.value in
    let all : c.loop-i.i ≡ c.args.file.now.size / 4096 = omega (arith, end) in
    subst (λ (k : ℕ). HasCountedRows r.geometry t c.args.directory k (file_block (t c.args.directory)) e count c.loop-i.found.items c.loop-i.table.items) all
    (c.loop-i.invariant.counted disk r t e count shows same file start).0

pub returns-clause-sound : goal.returns-clause-sound
returns-clause-sound g c = λ disk shows i low.
    let end : c.size.result / 4096 ≡ c.args.file.now.size / 4096 = ap (λ (s : ℕ). s / 4096) c.size.ensures.value in
    c.loop-i.invariant.sound disk shows i (omega (arith, end, low))
