-- A plan that grows.
use Rattle.std.proofs.Common.{◌≡◌, ◌≢◌, ℕ, ◌+◌, ◌/◌, ◌%◌, ◌<◌, ◌≤◌, List, length, get_or, inl, inr, refl, ap, sym, subst, ◌∙◌, arith}
use Rattle.std.proofs.lemmas.Bool.{cases_eq}
use Rattle.std.proofs.lemmas.Nat.Bits.{bit_at-lt, bit_at-zero, same_from_bits}
use Rattle.std.specs.Int.{bit_at}
use Rattle.std.specs.Prelude.{Result, Ok, Err, OnOk, OnErr}
use Rattle.blockmap.specs.Bits.{SetsPlane}
use Rattle.blockmap.specs.Parts.{Part}
use Rattle.blockmap.specs.Maps.{HasSetAt, IsFree, IsTouched, KeepsSettled, entry_at, settled_at}
use Rattle.blockmap.specs.declared.map.BlockMap.{BlockMap}
use Rattle.conspoint.specs.declared.plan.PlannedBlock.{PlannedBlock}
use Rattle.conspoint.specs.declared.draft.Draft.{Draft}
use Rattle.conspoint.specs.Plans.{AreDrafted, ChangesTouched}
use Rattle.conspoint.specs.Drafts.{Grows, WasTaken}

-- more places are given out
pub drafted_later : (count next more later : ℕ) (parts same : List Part) (blocks : List PlannedBlock) → same ≡ parts → more ≡ count → next ≤ later
    → AreDrafted count next (IsFree parts) blocks → AreDrafted more later (IsFree same) blocks
drafted_later count next more later parts same blocks is counts up drafted = record {
  planned = drafted.planned;
  below = λ k d lt. let low : (get_or blocks k d).place < next = drafted.below k d lt in omega arith;
  within = λ k d lt. let low : (get_or blocks k d).place < count = drafted.within k d lt in omega (arith, counts);
  free = λ k d lt. subst (λ (ps : List Part). IsFree ps (get_or blocks k d).place) (sym is) (drafted.free k d lt);
}

pub settled_twice : (a b c : List Part) → KeepsSettled a b → KeepsSettled b c → KeepsSettled a c
settled_twice a b c first second = record {
  count = second.count ∙ first.count;
  settled = λ n. second.settled n ∙ first.settled n;
  touched = λ j was. second.touched j (first.touched j was);
}

pub grows_twice : (a b c : Draft) → Grows a b → Grows b c → Grows a c
grows_twice a b c first second = record {
  settled = settled_twice a.map.parts.items b.map.parts.items c.map.parts.items first.settled second.settled;
  count = second.count ∙ first.count;
  next = omega (arith, first.next, second.next);
  has = λ e has. first.has e (second.has e has);
}

pub grows_none : (d : Draft) → Grows d d
grows_none d = record {
  settled = record { count = refl; settled = λ n. refl; touched = λ j was. was };
  count = refl;
  next = omega arith;
  has = λ e has. has;
}

-- what was given out before, or later
pub taken_later : (a b c : Draft) (x : ℕ) → WasTaken a b x → Grows b c → WasTaken a c x
taken_later a b c x taken grows = record { from = taken.from; to = omega (arith, taken.to, grows.next); within = taken.within; free = taken.free }

pub taken_earlier : (a b c : Draft) (x : ℕ) → Grows a b → WasTaken b c x → WasTaken a c x
taken_earlier a b c x grows taken = record {
  from = omega (arith, grows.next, taken.from);
  to = taken.to;
  within = omega (arith, grows.count, taken.within);
  free = sym (grows.settled.settled x) ∙ taken.free;
}

pub changed_same : (count more : ℕ) (parts same : List Part) → same ≡ parts → more ≡ count → ChangesTouched count parts → ChangesTouched more same
changed_same count more parts same is counts changed =
    subst (λ (k : ℕ). ChangesTouched k same) (sym counts) (subst (λ (ps : List Part). ChangesTouched count ps) (sym is) changed)

-- A set that is made empty changes no entry outside it.
pub cleared_touched : (m new : BlockMap) (k : ℕ) → ((j : ℕ) → j < length m.parts.items → HasSetAt k m.parts.items j → IsTouched new.parts.items j)
    → ((count : ℕ) → SetsPlane count k (λ b. 0) (entry_at m.parts.items) (entry_at new.parts.items))
    → (b : ℕ) → b < m.count → entry_at new.parts.items b ≢ entry_at m.parts.items b → IsTouched new.parts.items (b / 1024)
cleared_touched m new k touched sets b lt differs = elim (cases_eq (bit_at (entry_at m.parts.items b) k) 1) [
  | inl there ↦ touched (b / 1024) (omega (arith, lt, m.covers)) (b % 1024, omega arith, there)
  | inr out ↦
      let none : bit_at (entry_at m.parts.items b) k ≡ 0 = omega (arith, out, bit_at-lt (entry_at m.parts.items b) k) in
      absurd (differs (same_from_bits (entry_at new.parts.items b) (entry_at m.parts.items b) (λ i. elim (cases_eq i k) [
        | inl is ↦ ap (bit_at (entry_at new.parts.items b)) is ∙ (sets (b + 1)).there b (omega arith) ∙ sym none ∙ ap (bit_at (entry_at m.parts.items b)) (sym is)
        | inr other ↦ (sets (b + 1)).others b i (omega arith) other
      ])))
]

-- A plane is set, whose bits are 0 where the settled entry is, with room where an entry changes, or nothing changes.
pub plane_touched : {E Touched : Type 0} (m new : BlockMap) (k : ℕ) (plane : ℕ → ℕ) (result : Result (Unit {0}) E) → ((b : ℕ) → settled_at m.parts.items b ≡ 0 → plane b ≡ 0)
    → (Touched → ((count : ℕ) → SetsPlane count k plane (entry_at m.parts.items) (entry_at new.parts.items)) → (b : ℕ) → b < m.count
    → entry_at new.parts.items b ≢ entry_at m.parts.items b → IsTouched new.parts.items (b / 1024))
    → new.count ≡ m.count
    → KeepsSettled m.parts.items new.parts.items → OnOk result ((count : ℕ) → SetsPlane count k plane (entry_at m.parts.items) (entry_at new.parts.items))
    → OnOk result Touched → OnErr result ((b : ℕ) → entry_at new.parts.items b ≡ entry_at m.parts.items b)
    → ChangesTouched m.count m.parts.items → ChangesTouched new.count new.parts.items
plane_touched m new k plane (Ok done) zeros room counts settled sets touched same old = record {
  within = λ b lt differs. elim (cases_eq (entry_at new.parts.items b) (entry_at m.parts.items b)) [
    | inl is ↦ settled.touched (b / 1024) (old.within b (omega (arith, lt, counts)) (λ was. differs (is ∙ was ∙ sym (settled.settled b))))
    | inr other ↦ room touched sets b (omega (arith, lt, counts)) other
  ];
  past = λ b ge none.
      let was_none : settled_at m.parts.items b ≡ 0 = sym (settled.settled b) ∙ none in
      let was : entry_at m.parts.items b ≡ 0 = old.past b (omega (arith, ge, counts)) was_none in
      same_from_bits (entry_at new.parts.items b) 0 (λ i. elim (cases_eq i k) [
        | inl is ↦ ap (bit_at (entry_at new.parts.items b)) is ∙ (sets (b + 1)).there b (omega arith) ∙ zeros b was_none ∙ sym (bit_at-zero i)
        | inr other ↦ (sets (b + 1)).others b i (omega arith) other ∙ ap (λ x. bit_at x i) was
      ]);
}
plane_touched m new k plane (Err error) zeros room counts settled sets touched same old = record {
  within = λ b lt differs. settled.touched (b / 1024) (old.within b (omega (arith, lt, counts)) (λ is. differs (same b ∙ is ∙ sym (settled.settled b))));
  past = λ b ge none. same b ∙ old.past b (omega (arith, ge, counts)) (sym (settled.settled b) ∙ none);
}
