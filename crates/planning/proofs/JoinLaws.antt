-- One file more is planned, whichever number it has.
use Rattle.std.proofs.Common.{◌≡◌, ◌≢◌, ℕ, ◌/◌, ◌<◌, ◌≤◌, Bool, true, false, List, length, refl, ap, sym, subst, ◌∙◌, arith}
use Rattle.std.proofs.Math.Path.{fun_ext}
use Rattle.std.proofs.lemmas.Bool.{cond-false, ne_eqb}
use Rattle.std.specs.Prelude.{◌==◌}
use Rattle.layout.specs.Inode.{inode_bytes}
use Rattle.layout.specs.Limits.{Sizes}
use Rattle.layout.specs.Places.{Blocks}
use Rattle.layout.specs.declared.inode.Inode.{Inode}
use Rattle.blockmap.specs.Maps.{entry_at, settled_at}
use Rattle.blockmap.specs.Parts.{Part}
use Rattle.conspoint.specs.Drafts.{Grows, OnEach, WasTaken}
use Rattle.conspoint.specs.declared.draft.Draft.{Draft}
use Rattle.images.specs.BlockMap.{NamesOnce}
use Rattle.images.specs.Contents.{Content, content_of}
use Rattle.images.specs.Nodes.{held, Agrees, Names}
use Rattle.images.specs.Roots.{HeldTree, Reach}
use Rattle.images.specs.Soundness.{FitsNumber}
use Rattle.inode.specs.Files.{file_block}
use Rattle.inode.specs.declared.file.File.{File}
use Rattle.placement.specs.Files.{IsPlaced}
use Rattle.planning.specs.Inodes.{AreSpelled, with_inode_at}
use Rattle.planning.specs.Plans.{HasInodeMap, IsInodeMapOn, IsProgressOf, OnEachOver}
use Rattle.planning.specs.Progress.{AreTaken, Before, IsExactPlane, IsMarked, PlannedInodes, with_planned_file}
use Rattle.planning.specs.Steps.{IsPlanUnderWay}
use Rattle.planning.proofs.ProgressLaws.{more_planned}
use Rattle.planning.proofs.SpellingLaws.{PutsOneByOne, one_spelled}

-- marks of blocks in a map whose entries are those of before
pub marked_over : (taken freed : ℕ → Bool) (old mid new : List Part) → mid ≡ old → IsMarked taken freed (entry_at mid) (entry_at new) → IsMarked taken freed (entry_at old) (entry_at new)
marked_over taken freed old mid new same marked = subst (λ (ps : List Part). IsMarked taken freed (entry_at ps) (entry_at new)) same marked

module _ (old new : Draft) (before : Before) (s : Sizes) (t : HeldTree) (p : PlannedInodes) (n : ℕ) (f : Inode) (taken freed : ℕ → Bool)
    (once : NamesOnce t) (exact : IsExactPlane t before) (settled : (b : ℕ) → settled_at old.map.parts.items b ≡ before.entry b)
    (fresh : p.changed n ≡ false) (grows : Grows old new) (given : (b : ℕ) → taken b ≡ true → WasTaken old new b)
    (marked : IsMarked taken freed (entry_at old.map.parts.items) (entry_at new.map.parts.items)) where
  are_taken : AreTaken old.map.next new.map.next before taken
  are_taken = record {
    free = λ b is. sym (settled b) ∙ (given b is).free;
    behind = λ b is. (given b is).from;
    below = λ b is. (given b is).to;
  }

  pub progress_more : (e : Blocks) → IsPlaced s e (t n) f taken freed → FitsNumber n f.kind → IsProgressOf old s t e before p → IsProgressOf new s t e before (with_planned_file n f taken p)
  progress_more e placed fits progress =
      more_planned s t e old.map.next new.map.next before (entry_at old.map.parts.items) (entry_at new.map.parts.items) p n f taken freed once exact progress fresh placed fits are_taken grows.next marked

module _ (puts : PutsOneByOne) (old new : Draft) (disk : Blocks) (before : Before) (s : Sizes) (t : HeldTree) (found : ℕ → Content) (file changed : File) (f : Inode) (bytes : List ℕ) (taken freed : ℕ → Bool)
    (way : IsPlanUnderWay old disk before s t found file) (once : NamesOnce t) (exact : IsExactPlane t before) (fresh : way.plan.changed 1 ≡ false) (high : 1 < s.inodes)
    (grows : Grows old new) (given : (b : ℕ) → taken b ≡ true → WasTaken old new b)
    (placed : OnEach new (λ e. Agrees (Names (t 1)) disk e → IsPlaced s e (t 1) f taken freed)) (fits : OnEach new (λ e. Agrees (Names (t 1)) disk e → FitsNumber 1 f.kind))
    (marked : IsMarked taken freed (entry_at old.map.parts.items) (entry_at new.map.parts.items))
    (map : OnEach new (λ e. Agrees (Names (t 1)) disk e → IsInodeMapOn bytes (held e f)))
    (put : (i : ℕ) → file_block disk changed i ≡ with_inode_at (file_block disk file) 1 f i) (size : length (file_block disk file (1 / 21)) ≡ 4096) (long : length (inode_bytes f) ≡ 192) where
  mine : (e : Blocks) → Agrees (Reach t) disk e → Agrees (Names (t 1)) disk e
  mine e same b names = same b (record { file = 1; names = names })

  abbrev after : PlannedInodes
  after = with_planned_file 1 f taken way.plan

  contents_on : OnEachOver t disk new (λ e. (k : ℕ) → 3 ≤ k → after.changed k ≡ true → content_of (held e (after.inode k)) ≡ found k)
  contents_on e has same k least is =
      let other : k ≢ 1 = λ here. absurd (omega arith) in
      ap (λ (i : Inode). content_of (held e i)) (cond-false (k == 1) f (way.plan.inode k) (ne_eqb k 1 other))
      ∙ way.contents e (grows.has e has) same k least (sym (cond-false (k == 1) true (way.plan.changed k) (ne_eqb k 1 other)) ∙ is)

  pub map_planned : HasInodeMap bytes way.plan.changed way.plan.from new disk before s t found changed
  map_planned = record {
    way = record {
      plan = after;
      settled = λ b. grows.settled.settled b ∙ way.settled b;
      progress = λ e has same. progress_more old new before s t way.plan 1 f taken freed once exact way.settled fresh grows given marked e (placed e has (mine e same)) (fits e has (mine e same))
          (way.progress e (grows.has e has) same);
      contents = contents_on;
      spelled = subst (λ (g : ℕ → List ℕ). AreSpelled s.inodes g after.inode) (sym (fun_ext put))
          (one_spelled puts s.inodes (file_block disk file) way.plan.inode 1 f way.spelled (omega arith) high size long);
    };
    from_is = refl;
    others = λ k other. cond-false (k == 1) true (way.plan.changed k) (ne_eqb k 1 other);
    map = λ e has same. map e has (mine e same);
  }

-- where the settled file is the map already
pub map_stays : (d : Draft) (disk : Blocks) (before : Before) (s : Sizes) (t : HeldTree) (found : ℕ → Content) (file : File) (bytes : List ℕ) (way : IsPlanUnderWay d disk before s t found file)
    → OnEachOver t disk d (λ e. IsInodeMapOn bytes (held e (way.plan.inode 1))) → HasInodeMap bytes way.plan.changed way.plan.from d disk before s t found file
map_stays d disk before s t found file bytes way map = record { way = way; from_is = refl; others = λ k other. refl; map = map }
