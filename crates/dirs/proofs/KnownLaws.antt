-- What is known of the blocks of a directory, and with an edit of it.
use Rattle.std.proofs.Common.{◌≡◌, ◌<◌, ℕ, List, [], ◌∷◌, length, None, ap, arith, nat_cmp, refl, subst, sym, unwrap_or}
use Rattle.std.specs.BTreeMap as tree
use Rattle.std.specs.Map.{lookup}
use Rattle.entries.specs.Known.{AreButOne, Knows, Summarizes}
use Rattle.entries.specs.declared.known.Known.{Known}
use Rattle.inode.specs.Files.{file_block}
use Rattle.inode.specs.declared.file.File.{File}
use Rattle.dirs.specs.Directory.{with_at}
use Rattle.dirs.specs.Edits.{edited_block}
use Rattle.dirs.specs.declared.edit.Edit.{Edit}
use Rattle.dirs.proofs.NameLaws.{with_at-else, with_at-here}

pub same_knows : (inodes : ℕ) (old new : ℕ → List ℕ) (k : Known) → ((i : ℕ) → new i ≡ old i) → Knows inodes old k → Knows inodes new k
same_knows inodes old new k same knows i s is = subst (λ b. Summarizes inodes b s) (sym (same i)) (knows i s is)

-- an edit that changes no block
module _ (inodes : ℕ) (disk : ℕ → List ℕ) (f : File) (e : Edit) (k : Known) (none : (i : ℕ) → tree.get nat_cmp e.changed i ≡ None) where
  same : (i : ℕ) → edited_block disk f e i ≡ file_block disk f i
  same i = ap (λ o. unwrap_or o (file_block disk f i)) (none i)

  pub edited_knows : Knows inodes (file_block disk f) k → Knows inodes (edited_block disk f e) k
  edited_knows = same_knows inodes (file_block disk f) (edited_block disk f e) k same

  pub unedited_knows : Knows inodes (edited_block disk f e) k → Knows inodes (file_block disk f) k
  unedited_knows = same_knows inodes (edited_block disk f e) (file_block disk f) k (λ i. sym (same i))

-- block i is changed, and then nothing is known of it and of those behind
pub forgets : (inodes i : ℕ) (block : ℕ → List ℕ) (bytes : List ℕ) (mid new : Known) → (with_at i bytes block i ≡ bytes → AreButOne i block (with_at i bytes block) → Knows inodes (with_at i bytes block) mid)
    → ((old next : ℕ → List ℕ) → Knows inodes old mid → ((j : ℕ) → j < i → next j ≡ old j) → Knows inodes next new) → Knows inodes block new
forgets inodes i block bytes mid new changed forgotten =
    forgotten (with_at i bytes block) block (changed (with_at-here i i bytes block refl) (λ j other. with_at-else i j bytes block other)) (λ j below. sym (with_at-else i j bytes block (λ e. omega (arith, below, e))))

-- a map without entries has nothing
pub none_in : {X : Type 0} (es : List (ℕ × X)) (i : ℕ) → length es ≡ 0 → lookup (tree.is_at (nat_cmp i)) es ≡ None
none_in [] i none = refl
none_in (e ∷ es) i none = absurd (omega (arith, none))
