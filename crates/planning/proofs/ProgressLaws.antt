-- What is planned file by file comes to.
use Rattle.std.proofs.Common.{◌≡◌, ◌≢◌, ◌⊎◌, inl, inr, ◌==◌, if◌then◌else◌, ℕ, Bool, true, false, ◌<◌, ◌≤◌, List, refl, ap, sym, subst, ◌∙◌, arith}
use Rattle.std.proofs.lemmas.Bool.{cases_eq, cond-true, cond-false, eq-eqb, ne_eqb, cases_Bool}
use Rattle.layout.specs.Limits.{Sizes}
use Rattle.layout.specs.Places.{Blocks}
use Rattle.layout.specs.declared.inode.Inode.{Inode}
use Rattle.layout.specs.declared.pointer.Pointer.TheVariants.{Block}
use Rattle.images.specs.Nodes.{held, Names, IsOnce}
use Rattle.images.specs.Roots.{HeldTree, Reach}
use Rattle.images.specs.BlockMap.{HasBit, NamesOnce}
use Rattle.images.specs.Soundness.{IsSoundFile, FitsNumber}
use Rattle.blockmap.specs.Maps.{entry_at}
use Rattle.blockmap.specs.Parts.{Part}
use Rattle.placement.specs.Files.{IsPlaced}
use Rattle.planning.specs.Progress.{AreTaken, Before, HasActive, IsExactPlane, IsMarked, IsProgress, KeepsSets, PlannedInodes, unplanned, with_planned_file}
use Rattle.images.proofs.EmptyLaws.{no_bit}

pub none_planned : (s : Sizes) (t : HeldTree) (e : Blocks) (next : ℕ) (before : Before) (after : ℕ → ℕ) → HasActive before after → IsProgress s t e next before after (unplanned next t)
none_planned s t e next before after same = record {
  moves = λ n m i b is. absurd (cc);
  each = λ n is. absurd (cc);
  sound = λ n is. absurd (cc);
  kinds = λ n is. absurd (cc);
  stays = λ n is. refl;
  free = λ n b is. absurd (cc);
  starts = omega arith;
  behind = λ n b is. absurd (cc);
  below = λ n b is. absurd (cc);
  once = λ n m b is. absurd (cc);
  marks = λ b. (λ has. inl (sym (same b) ∙ has, λ n is. absurd (cc)), λ which. elim which [ inl kept ↦ same b ∙ kept.0 | inr new ↦ absurd (cc (new.1)) ]);
}

here : {X : Type 0} (k n : ℕ) (x y : X) → k ≡ n → (if k == n then x else y) ≡ x
here k n x y is = cond-true (k == n) x y (eq-eqb k n is)

there : {X : Type 0} (k n : ℕ) (x y : X) → k ≢ n → (if k == n then x else y) ≡ y
there k n x y other = cond-false (k == n) x y (ne_eqb k n other)

pub sets_twice : (a b c : ℕ → ℕ) → KeepsSets a b → KeepsSets b c → KeepsSets a c
sets_twice a b c one two x i other = two x i other ∙ one x i other

-- where the parts of the map are the same
pub sets_from : (old mid new : List Part) → mid ≡ old → KeepsSets (entry_at mid) (entry_at new) → KeepsSets (entry_at old) (entry_at new)
sets_from old mid new same keeps = subst (λ (ps : List Part). KeepsSets (entry_at ps) (entry_at new)) same keeps

pub true_false : {t : Bool} → t ≡ true → t ≡ false → ⊥
true_false is isnt = absurd (cc)

module _ (s : Sizes) (t : HeldTree) (e : Blocks) (from to : ℕ) (before : Before) (after last : ℕ → ℕ) (p : PlannedInodes) (n : ℕ) (f : Inode) (taken freed : ℕ → Bool)
    (names_once : NamesOnce t) (exact : IsExactPlane t before) (progress : IsProgress s t e from before after p) (new : p.changed n ≡ false)
    (placed : IsPlaced s e (t n) f taken freed) (kind : FitsNumber n f.kind) (are_taken : AreTaken from to before taken) (later : from ≤ to) (marked : IsMarked taken freed after last) where
  abbrev q : PlannedInodes
  q = with_planned_file n f taken p

  inode_here : (k : ℕ) → k ≡ n → q.inode k ≡ f
  inode_here k is = here k n f (p.inode k) is

  inode_there : (k : ℕ) → k ≢ n → q.inode k ≡ p.inode k
  inode_there k other = there k n f (p.inode k) other

  taken_here : (k b : ℕ) → k ≡ n → q.taken k b ≡ taken b
  taken_here k b is = ap (λ g. g b) (here k n taken (p.taken k) is)

  taken_there : (k b : ℕ) → k ≢ n → q.taken k b ≡ p.taken k b
  taken_there k b other = ap (λ g. g b) (there k n taken (p.taken k) other)

  changed_there : (k : ℕ) → k ≢ n → q.changed k ≡ p.changed k
  changed_there k other = there k n true (p.changed k) other

  -- a fact of each changed file
  each_file : (P : ℕ → Inode → Type 0) → ((k : ℕ) → p.changed k ≡ true → P k (p.inode k)) → P n f → (k : ℕ) → q.changed k ≡ true → P k (q.inode k)
  each_file P old mine k is = elim (cases_eq k n) [
    | inl same ↦ subst (P k) (sym (inode_here k same)) (subst (λ m. P m f) (sym same) mine)
    | inr other ↦ subst (P k) (sym (inode_there k other)) (old k (sym (changed_there k other) ∙ is))
  ]

  -- a number of the old tree has a block that isn't taken
  not_taken : (k m b : ℕ) → Names (t m) b → before.entry b ≡ 0 → ⊥
  not_taken k m b names none = no_bit before.plane (before.entry b) none ((exact b).1 (record { file = m; names = names }))

  now_moves : (k m i b : ℕ) → q.changed k ≡ true → (held e (q.inode k)).place m i ≡ Block b → ((t k).place m i ≡ Block b) ⊎ (q.taken k b ≡ true)
  now_moves k m i b is at = elim (cases_eq k n) [
    | inl same ↦ elim (placed.moves m i b (subst (λ (f : Inode). (held e f).place m i ≡ Block b) (inode_here k same) at)) [
      | inl was ↦ inl (subst (λ (k : ℕ). (t k).place m i ≡ Block b) (sym same) was)
      | inr came ↦ inr (taken_here k b same ∙ came)
    ]
    | inr other ↦ elim (progress.moves k m i b (sym (changed_there k other) ∙ is) (subst (λ (f : Inode). (held e f).place m i ≡ Block b) (inode_there k other) at)) [
      | inl was ↦ inl was
      | inr came ↦ inr (taken_there k b other ∙ came)
    ]
  ]

  now_stays : (k : ℕ) → q.changed k ≡ false → q.inode k ≡ (t k).inode
  now_stays k is = elim (cases_eq k n) [
    | inl same ↦ absurd (true_false (here k n true (p.changed k) same) is)
    | inr other ↦ inode_there k other ∙ progress.stays k (sym (changed_there k other) ∙ is)
  ]

  now_free : (k b : ℕ) → q.taken k b ≡ true → before.entry b ≡ 0
  now_free k b is = elim (cases_eq k n) [
    | inl same ↦ are_taken.free b (sym (taken_here k b same) ∙ is)
    | inr other ↦ progress.free k b (sym (taken_there k b other) ∙ is)
  ]

  now_below : (k b : ℕ) → q.taken k b ≡ true → b < to
  now_below k b is = elim (cases_eq k n) [
    | inl same ↦ are_taken.below b (sym (taken_here k b same) ∙ is)
    | inr other ↦ let low = progress.below k b (sym (taken_there k b other) ∙ is) in omega arith
  ]

  now_behind : (k b : ℕ) → q.taken k b ≡ true → p.from ≤ b
  now_behind k b is = elim (cases_eq k n) [
    | inl same ↦ (let high = are_taken.behind b (sym (taken_here k b same) ∙ is) in omega (arith, high, progress.starts))
    | inr other ↦ progress.behind k b (sym (taken_there k b other) ∙ is)
  ]

  -- what was taken before lies below what is taken now
  apart : (k b : ℕ) → p.taken k b ≡ true → taken b ≡ true → ⊥
  apart k b old mine = let low = progress.below k b old in let high = are_taken.behind b mine in absurd (omega arith)

  now_once : (k m b : ℕ) → q.taken k b ≡ true → q.taken m b ≡ true → k ≡ m
  now_once k m b one two = elim (cases_eq k n) [
    | inl k_is ↦ elim (cases_eq m n) [
      | inl m_is ↦ k_is ∙ sym m_is
      | inr m_other ↦ absurd (apart m b (sym (taken_there m b m_other) ∙ two) (sym (taken_here k b k_is) ∙ one))
    ]
    | inr k_other ↦ elim (cases_eq m n) [
      | inl m_is ↦ absurd (apart k b (sym (taken_there k b k_other) ∙ one) (sym (taken_here m b m_is) ∙ two))
      | inr m_other ↦ progress.once k m b (sym (taken_there k b k_other) ∙ one) (sym (taken_there m b m_other) ∙ two)
    ]
  ]

  -- a block that the file had, and none that is changed
  mine_only : (k b : ℕ) → Names (t n) b → p.changed k ≡ true → Names (t k) b → ⊥
  mine_only k b mine is other = true_false is (ap p.changed (names_once.apart k n b other mine) ∙ new)

  -- nor does a changed file have it now
  not_new : (k b : ℕ) → Names (t n) b → p.changed k ≡ true → Names (held e (p.inode k)) b → ⊥
  not_new k b mine is names = elim (progress.moves k names.height names.index b is names.is) [
    | inl was ↦ mine_only k b mine is (record { height = names.height; index = names.index; is = was })
    | inr came ↦ not_taken k n b mine (progress.free k b came)
  ]

  now_marked : (b : ℕ) → HasBit 0 (last b) → (HasBit before.plane (before.entry b) × ((k : ℕ) → q.changed k ≡ true → Names (t k) b → ⊥)) ⊎ ((k : ℕ) × (q.changed k ≡ true) × Names (held e (q.inode k)) b)
  now_marked b has = elim ((marked.active b).0 has) [
    | inr came ↦ inr (n, here n n true (p.changed n) refl, subst (λ i. Names (held e i) b) (sym (inode_here n refl)) (placed.named b came))
    | inl kept ↦ elim ((progress.marks b).0 kept.0) [
      | inr found ↦
          let other : found.0 ≢ n = λ same. true_false found.1 (ap p.changed same ∙ new) in
          inr (found.0, changed_there found.0 other ∙ found.1, subst (λ i. Names (held e i) b) (sym (inode_there found.0 other)) found.2)
      | inl old ↦ let reach : Reach t b = (exact b).0 old.0 in elim (cases_eq reach.file n) [
        | inl same ↦ elim (placed.stays b (subst (λ k. Names (t k) b) same reach.names)) [
          | inl names ↦ inr (n, here n n true (p.changed n) refl, subst (λ i. Names (held e i) b) (sym (inode_here n refl)) names)
          | inr gone ↦ absurd (true_false gone kept.1)
        ]
        | inr differs ↦ inl (
          old.0,
          λ k is names. elim (cases_eq k n) [
            | inl k_is ↦ differs (names_once.apart reach.file k b reach.names names ∙ k_is)
            | inr k_other ↦ old.1 k (sym (changed_there k k_other) ∙ is) names
          ],
        )
      ]
    ]
  ]

  -- a block that was marked so far and isn't one of the file's stays marked
  stays_marked : (b : ℕ) → HasBit 0 (after b) → (Names (t n) b → Names (held e f) b) → HasBit 0 (last b)
  stays_marked b has kept = (marked.active b).1 (inl (
    has,
    elim (cases_Bool (freed b)) [
      | inl gone ↦ absurd ((placed.freed_are b gone).1 (kept (placed.freed_are b gone).0))
      | inr stays ↦ stays
    ],
  ))

  was_marked : (b : ℕ) → (HasBit before.plane (before.entry b) × ((k : ℕ) → q.changed k ≡ true → Names (t k) b → ⊥)) ⊎ ((k : ℕ) × (q.changed k ≡ true) × Names (held e (q.inode k)) b) → HasBit 0 (last b)
  was_marked b (inl old) =
      stays_marked b ((progress.marks b).1 (inl (
        old.0,
        λ k is names. elim (cases_eq k n) [
          | inl same ↦ true_false is (ap p.changed same ∙ new)
          | inr other ↦ old.1 k (changed_there k other ∙ is) names
        ],
      ))) (λ mine. absurd (old.1 n (here n n true (p.changed n) refl) mine))
  was_marked b (inr found) = elim (cases_eq found.0 n) [
    | inl same ↦
        let names : Names (held e f) b = subst (λ i. Names (held e i) b) (inode_here found.0 same) found.2 in
        elim (placed.moves names.height names.index b names.is) [
          | inl was ↦
              let mine : Names (t n) b = record { height = names.height; index = names.index; is = was } in
              stays_marked b ((progress.marks b).1 (inl ((exact b).1 (record { file = n; names = mine }), λ k is other. mine_only k b mine is other))) (λ again. names)
          | inr came ↦ (marked.active b).1 (inr came)
        ]
    | inr other ↦
        let is : p.changed found.0 ≡ true = sym (changed_there found.0 other) ∙ found.1 in
        let names : Names (held e (p.inode found.0)) b = subst (λ i. Names (held e i) b) (inode_there found.0 other) found.2 in
        stays_marked b ((progress.marks b).1 (inr (found.0, is, names))) (λ mine. absurd (not_new found.0 b mine is names))
  ]

  pub more_planned : IsProgress s t e to before last (with_planned_file n f taken p)
  more_planned = record {
    moves = now_moves;
    each = each_file (λ k i. IsOnce (held e i)) progress.each placed.once;
    sound = each_file (λ k i. IsSoundFile s (held e i)) progress.sound placed.sound;
    kinds = each_file (λ k i. FitsNumber k i.kind) progress.kinds kind;
    stays = now_stays;
    free = now_free;
    starts = omega (arith, progress.starts, later);
    behind = now_behind;
    below = now_below;
    once = now_once;
    marks = λ b. (now_marked b, was_marked b);
  }
