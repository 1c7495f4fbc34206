-- One number more is planned.
use Rattle.std.proofs.Common.{◌≡◌, inl, inr, ℕ, zero, suc, ◌/◌, ◌<◌, ◌≤◌, Bool, true, false, List, length, refl, ap, sym, subst, ◌∙◌, arith}
use Rattle.std.proofs.Math.Path.{fun_ext}
use Rattle.std.proofs.lemmas.Bool.{cases_eq, cond-true, cond-false, eq-eqb, ne_eqb}
use Rattle.std.specs.Prelude.{◌==◌}
use Rattle.layout.specs.Inode.{inode_bytes}
use Rattle.layout.specs.Limits.{Sizes}
use Rattle.layout.specs.Places.{Blocks}
use Rattle.layout.specs.declared.inode.Inode.{Inode}
use Rattle.layout.specs.declared.kind.Kind.{Kind}
use Rattle.blockmap.specs.Maps.{entry_at}
use Rattle.blockmap.specs.Parts.{Part}
use Rattle.conspoint.specs.Drafts.{Grows, HasAll, OnEach, WasTaken}
use Rattle.conspoint.specs.declared.draft.Draft.{Draft}
use Rattle.images.specs.BlockMap.{NamesOnce}
use Rattle.images.specs.Contents.{Content, content_of}
use Rattle.images.specs.Nodes.{held, Agrees, Names}
use Rattle.images.specs.Roots.{HeldTree, Reach}
use Rattle.images.specs.Soundness.{FitsNumber, IsOrdinary}
use Rattle.inode.specs.Files.{file_block}
use Rattle.inode.specs.declared.file.File.{File}
use Rattle.planning.specs.Inodes.{AreSpelled, with_inode_at}
use Rattle.planning.specs.Numbers.{IsNumberPlaced}
use Rattle.planning.specs.Progress.{AreTaken, Before, IsExactPlane, IsMarked, IsProgress, PlannedInodes, with_planned_file}
use Rattle.planning.specs.Steps.{GoesOn, IsPlanUnderWay}
use Rattle.planning.proofs.ProgressLaws.{more_planned}
use Rattle.planning.proofs.SpellingLaws.{PutsOneByOne, one_spelled}

fits_ordinary : (n : ℕ) (k : Kind) → 3 ≤ n → IsOrdinary k → FitsNumber n k
fits_ordinary zero k low is = absurd (omega arith)
fits_ordinary (suc zero) k low is = absurd (omega arith)
fits_ordinary (suc (suc zero)) k low is = absurd (omega arith)
fits_ordinary (suc (suc (suc n))) k low is = is

module _ (puts : PutsOneByOne) (old mid new : Draft) (disk : Blocks) (before : Before) (s : Sizes) (t : HeldTree) (found : ℕ → Content) (file changed : File) (n : ℕ) (f : Inode) (taken freed : ℕ → Bool)
    (way : IsPlanUnderWay old disk before s t found file) (once : NamesOnce t) (exact : IsExactPlane t before) (fresh : way.plan.changed n ≡ false) (low : 3 ≤ n) (high : n < s.inodes)
    (grows : Grows old mid) (parts : mid.map.parts.items ≡ old.map.parts.items) (given : (b : ℕ) → taken b ≡ true → WasTaken old mid b)
    (placed : OnEach mid (λ e. Agrees (Names (t n)) disk e → IsNumberPlaced s e (t n) (found n) f taken freed))
    (goes : Grows mid new) (next : new.map.next ≡ mid.map.next) (marked : IsMarked taken freed (entry_at mid.map.parts.items) (entry_at new.map.parts.items))
    (put : (i : ℕ) → file_block disk changed i ≡ with_inode_at (file_block disk file) n f i) (size : length (file_block disk file (n / 21)) ≡ 4096) (long : length (inode_bytes f) ≡ 192) where
  abbrev after : PlannedInodes
  after = with_planned_file n f taken way.plan

  earlier : (e : Blocks) → HasAll e new.blocks.items → HasAll e old.blocks.items
  earlier e has = grows.has e (goes.has e has)

  mine : (e : Blocks) → HasAll e new.blocks.items → Agrees (Reach t) disk e → IsNumberPlaced s e (t n) (found n) f taken freed
  mine e has same = placed e (goes.has e has) (λ b names. same b (record { file = n; names = names }))

  are_taken : AreTaken old.map.next mid.map.next before taken
  are_taken = record {
    free = λ b is. sym (way.settled b) ∙ (given b is).free;
    behind = λ b is. (given b is).from;
    below = λ b is. (given b is).to;
  }

  marks : IsMarked taken freed (entry_at old.map.parts.items) (entry_at new.map.parts.items)
  marks = subst (λ (ps : List Part). IsMarked taken freed (entry_at ps) (entry_at new.map.parts.items)) parts marked

  progress_on : (e : Blocks) → HasAll e new.blocks.items → Agrees (Reach t) disk e → IsProgress s t e new.map.next before (entry_at new.map.parts.items) after
  progress_on e has same = subst (λ k. IsProgress s t e k before (entry_at new.map.parts.items) after) (sym next)
      (more_planned s t e old.map.next mid.map.next before (entry_at old.map.parts.items) (entry_at new.map.parts.items) way.plan n f taken freed once exact
      (way.progress e (earlier e has) same) fresh (mine e has same).placed (fits_ordinary n f.kind low (mine e has same).kind) are_taken grows.next marks)

  contents_on : (e : Blocks) → HasAll e new.blocks.items → Agrees (Reach t) disk e → (k : ℕ) → 3 ≤ k → after.changed k ≡ true → content_of (held e (after.inode k)) ≡ found k
  contents_on e has same k least is = elim (cases_eq k n) [
    | inl here ↦ ap (λ (i : Inode). content_of (held e i)) (cond-true (k == n) f (way.plan.inode k) (eq-eqb k n here)) ∙ (mine e has same).content ∙ ap found (sym here)
    | inr other ↦ ap (λ (i : Inode). content_of (held e i)) (cond-false (k == n) f (way.plan.inode k) (ne_eqb k n other))
        ∙ way.contents e (earlier e has) same k least (sym (cond-false (k == n) true (way.plan.changed k) (ne_eqb k n other)) ∙ is)
  ]

  spelled_on : AreSpelled s.inodes (file_block disk changed) after.inode
  spelled_on = subst (λ (g : ℕ → List ℕ). AreSpelled s.inodes g after.inode) (sym (fun_ext put))
      (one_spelled puts s.inodes (file_block disk file) way.plan.inode n f way.spelled (omega arith) high size long)

  pub goes_on : GoesOn n way.plan.changed way.plan.from new disk before s t found changed
  goes_on = record {
    way = record {
      plan = after;
      settled = λ b. goes.settled.settled b ∙ (grows.settled.settled b ∙ way.settled b);
      progress = progress_on;
      contents = contents_on;
      spelled = spelled_on;
    };
    from_is = refl;
    more = λ k. refl;
  }
