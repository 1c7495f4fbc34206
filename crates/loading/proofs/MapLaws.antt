-- The block map as it is read, part by part.
use Rattle.std.proofs.Common.{◌≡◌, ℕ, zero, suc, ◌+◌, ◌-◌, ◌*◌, ◌/◌, ◌%◌, ◌<◌, ◌≤◌, List, [], ◌∷◌, ◌++◌, true, false, length, drop, get_or, slice_index, refl, ap, sym, subst, ◌∙◌, arith, inl, inr}
use Rattle.std.specs.Prelude.{if◌then◌else◌, take}
use Rattle.std.specs.Int.{div_ceil}
use Rattle.std.proofs.Math.Dec.{eqb-suc-zero}
use Rattle.std.proofs.lemmas.Bool.{cases_lt, cond_above}
use Rattle.std.proofs.lemmas.List.{get_or_past, drop-replicate, get_or_append_left, get_or_push, length_push}
use Rattle.layout.specs.Bytes.{number, zeros}
use Rattle.layout.specs.Maps.{map_entry, word}
use Rattle.layout.specs.Places.{Blocks, place, pointed}
use Rattle.layout.specs.declared.trees.Layout.{Layout}
use Rattle.layout.specs.declared.inode.Body.{Body}
use Rattle.layout.specs.declared.inode.Body.TheVariants.{Inline, Pointers}
use Rattle.layout.proofs.ZeroLaws.{number-zeros}
use Rattle.blocktree.specs.Places.{block_count, depth_of}
use Rattle.blocktree.specs.Trees.{settled_block}
use Rattle.blockmap.specs.Maps.{no_part, settled_at, entry_at}
use Rattle.blockmap.specs.Parts.{Part, Spells}
use Rattle.inode.specs.Edges.{filled}
use Rattle.inode.specs.Bodies.{body_block}
use Rattle.loading.specs.Readings.{AreParts, AreUnchanged}

-- ---- zeros

drop-zeros : (n count : ℕ) → drop n (zeros count) ≡ zeros (count - n)
unfolding zeros
drop-zeros n count = drop-replicate n count 0

word-zeros : (i count : ℕ) → word (zeros count) i ≡ 0
word-zeros i count = ap (number 4) (drop-zeros (4 * i) count) ∙ number-zeros (count - 4 * i)

-- ---- blocks past a file's end

pub past_end : (layout : Layout) (disk : Blocks) (body : Body) (size i : ℕ) → 1 ≤ i → div_ceil size 4096 ≤ i → body_block layout disk body size i ≡ zeros 4096
unfolding settled_block
past_end layout disk (Inline bytes) size zero some past = absurd (omega arith)
past_end layout disk (Inline bytes) size (suc i) some past = ap (λ b. if b then filled 4096 (take size bytes) else zeros 4096) (eqb-suc-zero i)
past_end layout disk (Pointers pointers) size i some past =
    sym (cond_above i (block_count size) (pointed disk (place layout disk pointers (depth_of layout size) i)) (zeros 4096) (zeros 4096) past refl)

-- ---- entries

pub entries_are : (block : ℕ → List ℕ) (count : ℕ) (parts : List Part) → AreParts block count parts → ((j : ℕ) → count ≤ j → block j ≡ zeros 4096)
    → (b : ℕ) → settled_at parts b ≡ map_entry (block (b / 1024)) (b % 1024)
entries_are block count parts are past b = elim (cases_lt (b / 1024) count) [
  | inl lt ↦ sym (are.settled (b / 1024) lt (b % 1024) (omega arith))
  | inr ge ↦
      ap (λ (p : Part). slice_index p.settled (b % 1024)) (get_or_past parts (b / 1024) no_part (omega (arith, are.count_is)))
      ∙ sym (ap (λ bytes. map_entry bytes (b % 1024)) (past (b / 1024) ge) ∙ word-zeros (b % 1024) 4096)
]

pub same_entries : (parts : List Part) → AreUnchanged parts → (b : ℕ) → entry_at parts b ≡ settled_at parts b
same_entries parts are b = ap (λ (xs : List ℕ). slice_index xs (b % 1024)) (are.same (b / 1024))

-- ---- one part more

-- a fact of each part, from those before, of the last, and of none
pushed : (P : Part → Type 0) (parts : List Part) (part : Part) (j : ℕ) → (j < length parts → P (get_or parts j no_part)) → (j ≡ length parts → P part) → (length parts < j → P no_part)
    → P (get_or (parts ++ part ∷ []) j no_part)
pushed P parts part j before here past = elim (cases_lt j (length parts)) [
  | inl below ↦ subst P (sym (get_or_append_left parts (part ∷ []) no_part j below)) (before below)
  | inr le ↦ elim (cases_lt (length parts) j) [
    | inl above ↦ subst P (sym (get_or_past (parts ++ part ∷ []) j no_part (omega (arith, length_push parts part)))) (past above)
    | inr ge ↦ let at : length parts ≡ j = omega arith in subst P (sym (get_or_push parts part no_part j at)) (here (sym at))
  ]
]

pub part_more : (block : ℕ → List ℕ) (count : ℕ) (parts new : List Part) (part : Part) → AreParts block count parts → new ≡ parts ++ part ∷ []
    → Spells (block count) part.settled → AreParts block (count + 1) new
part_more block count parts new part are is spells = subst (AreParts block (count + 1)) (sym is) (record {
  count_is = length_push parts part ∙ ap (λ n. n + 1) are.count_is;
  settled = λ j lt. pushed (λ p. Spells (block j) p.settled) parts part j
      (λ below. are.settled j (omega (arith, below, are.count_is)))
      (λ at. subst (λ k. Spells (block k) part.settled) (sym are.count_is ∙ sym at) spells)
      (λ above. absurd (omega (arith, above, lt, are.count_is)));
})

pub unchanged_more : (parts new : List Part) (part : Part) → AreUnchanged parts → new ≡ parts ++ part ∷ [] → part.entries ≡ part.settled → part.is_touched ≡ false → AreUnchanged new
unchanged_more parts new part are is same untouched = subst AreUnchanged (sym is) (record {
  same = λ j. pushed (λ p. p.entries ≡ p.settled) parts part j (λ _. are.same j) (λ _. same) (λ _. refl);
  untouched = λ j. pushed (λ p. p.is_touched ≡ true → ⊥) parts part j (λ _. are.untouched j) (λ _ is. cc) (λ _ is. cc);
})
