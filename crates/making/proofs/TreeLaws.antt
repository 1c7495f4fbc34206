-- All files of a new image are planned.
use Rattle.std.proofs.Common.{◌≡◌, ◌≢◌, inl, inr, ◌↔◌, ℕ, zero, suc, ◌<◌, ◌≤◌, true, List, length, refl, ap, sym, subst, ◌∙◌, arith}
use Rattle.std.proofs.lemmas.Bool.{cases_eq, cases_lt}
use Rattle.std.proofs.lemmas.Nat.Bits.{bit_at-lt, bit_at-pow_other, bit_at-pow_same, bit_at-zero, same_from_bits}
use Rattle.std.specs.Int.{bit_at}
use Rattle.std.specs.Prelude.{◌==◌, if◌then◌else◌}
use Rattle.layout.specs.Bytes.{zeros}
use Rattle.layout.specs.Inode.{inode_bytes}
use Rattle.layout.specs.Limits.{AreSizes, Sizes}
use Rattle.layout.specs.Places.{Blocks}
use Rattle.layout.specs.declared.inode.Inode.{Inode}
use Rattle.buffers.specs.Disks.{IsWhole}
use Rattle.blockmap.specs.Maps.{entry_at}
use Rattle.conspoint.specs.Drafts.{Grows, HasAll, OnEach}
use Rattle.conspoint.specs.declared.draft.Draft.{Draft}
use Rattle.images.specs.BlockMap.{HasBit, entry}
use Rattle.images.specs.FirstRoots.{IsFirstTree, empty_directory, first_tree}
use Rattle.images.specs.Nodes.{IsOnce, Names, file_block, held}
use Rattle.images.specs.Roots.{Reach}
use Rattle.images.specs.Soundness.{IsSoundFile}
use Rattle.images.proofs.FirstLaws.{free_named, none_named}
use Rattle.making.specs.Plans.{HasFile, HasFileOn, HasTree, IsDraftMapOn, IsNumbersOn, IsTopOn, StandsInJust}
use Rattle.making.specs.Starts.{IsEmptyMap, inodes_block, system_entry}
use Rattle.making.proofs.EmptyMapLaws.{system_low, system_past}
use Rattle.making.proofs.SpelledLaws.{PutsOneByOne, first_long, first_spelled}

three : (P : ℕ → Type 0) → P 0 → P 1 → P 2 → (n : ℕ) → n < 3 → P n
three P zero_is one two zero low = zero_is
three P zero_is one two (suc zero) low = one
three P zero_is one two (suc (suc zero)) low = two
three P zero_is one two (suc (suc (suc n))) low = absurd (omega (arith, low))

-- bits of the entries of a disk of which no block is in use
start_low : (b k : ℕ) → b < 2 → k ≢ 31 → bit_at (system_entry b) k ≡ 0
start_low b k lt other = ap (λ x. bit_at x k) (system_low b lt) ∙ bit_at-pow_other 31 k other

start_past : (b k : ℕ) → 2 ≤ b → bit_at (system_entry b) k ≡ 0
start_past b k ge = ap (λ x. bit_at x k) (system_past b ge) ∙ bit_at-zero k

start_none : (b k : ℕ) → k ≢ 31 → bit_at (system_entry b) k ≡ 0
start_none b k other = elim (cases_lt b 2) [ inl lt ↦ start_low b k lt other | inr ge ↦ start_past b k ge ]

start_system : (b : ℕ) → HasBit 31 (system_entry b) ↔ (b < 2)
start_system b = (
  λ has. elim (cases_lt b 2) [ inl lt ↦ lt | inr ge ↦ (let none = start_past b 31 ge in absurd (omega (arith, none, has))) ],
  λ lt. ap (λ x. bit_at x 31) (system_low b lt) ∙ bit_at-pow_same 31,
)

module _ (puts : PutsOneByOne) (s : Sizes) (are : AreSizes s) (d0 d1 d2 d3 d4 : Draft) (numbers top map : Inode) (first : ℕ)
    (has1 : HasFile s d0 d1 numbers) (on1 : OnEach d1 (λ e. IsNumbersOn e numbers)) (has0 : HasFileOn (λ e. IsWhole (e first)) s d1 d2 top) (on0 : OnEach d2 (λ e. IsTopOn e first top))
    (has2 : HasFile s d2 d3 map) (on2 : OnEach d3 (λ e. IsDraftMapOn e d3 map)) (grows1 : Grows d0 d1) (grows2 : Grows d1 d2) (grows3 : Grows d2 d3) (grows4 : Grows d3 d4)
    (start : IsEmptyMap s.blocks d0.map) (stored : OnEach d4 (λ e. e first ≡ inodes_block s.layout numbers map))
    (long_numbers : length (inode_bytes numbers) ≡ 192) (long_map : length (inode_bytes map) ≡ 192) (long_directory : length (inode_bytes (empty_directory s.layout)) ≡ 192) where
  module _ (e : Blocks) (has : HasAll e d4.blocks.items) where
    at3 : HasAll e d3.blocks.items
    at3 = grows4.has e has

    at2 : HasAll e d2.blocks.items
    at2 = grows3.has e at3

    at1 : HasAll e d1.blocks.items
    at1 = grows2.has e at2

    in1 : StandsInJust s e numbers has1.taken
    in1 = has1.stands e at1 tt

    in0 : StandsInJust s e top has0.taken
    in0 = has0.stands e at2 (ap length (stored e has) ∙ first_long puts s.layout numbers map long_numbers long_map long_directory)

    top_layout : top.layout ≡ s.layout
    unfolding held
    top_layout = in0.sound.inode.layout

    in2 : StandsInJust s e map has2.taken
    in2 = has2.stands e at3 tt

    others_are : (b k : ℕ) → k ≢ 0 → bit_at (entry_at d3.map.parts.items b) k ≡ bit_at (system_entry b) k
    others_are b k other = has2.others b k other ∙ has0.others b k other ∙ has1.others b k other ∙ ap (λ x. bit_at x k) (start.entries b)

    entry_is : (b : ℕ) → entry (first_tree e top numbers map) b ≡ entry_at d3.map.parts.items b
    unfolding entry
    entry_is b = (on2 e at3).entries b

    differ : (b : ℕ) → has1.taken b ≡ true → has0.taken b ≡ true → ⊥
    differ b x y = (let p = has1.given b x in let q = has0.given b y in absurd (omega (arith, p.to, q.from)))

    differ_map : (b : ℕ) → has0.taken b ≡ true → has2.taken b ≡ true → ⊥
    differ_map b x y = (let p = has0.given b x in let q = has2.given b y in absurd (omega (arith, p.to, q.from)))

    differ_both : (b : ℕ) → has1.taken b ≡ true → has2.taken b ≡ true → ⊥
    differ_both b x y = (let p = has1.given b x in let q = has2.given b y in absurd (omega (arith, p.to, q.from, grows2.next)))

    apart : (n m b : ℕ) → n < 3 → m < 3 → Names (first_tree e top numbers map n) b → Names (first_tree e top numbers map m) b → n ≡ m
    apart zero zero b x y p q = refl
    apart zero (suc zero) b x y p q = absurd (differ b ((in1.named b).0 q) ((in0.named b).0 p))
    apart zero (suc (suc zero)) b x y p q = absurd (differ_map b ((in0.named b).0 p) ((in2.named b).0 q))
    apart (suc zero) zero b x y p q = absurd (differ b ((in1.named b).0 p) ((in0.named b).0 q))
    apart (suc zero) (suc zero) b x y p q = refl
    apart (suc zero) (suc (suc zero)) b x y p q = absurd (differ_both b ((in1.named b).0 p) ((in2.named b).0 q))
    apart (suc (suc zero)) zero b x y p q = absurd (differ_map b ((in0.named b).0 q) ((in2.named b).0 p))
    apart (suc (suc zero)) (suc zero) b x y p q = absurd (differ_both b ((in1.named b).0 q) ((in2.named b).0 p))
    apart (suc (suc zero)) (suc (suc zero)) b x y p q = refl
    apart (suc (suc (suc n))) m b x y p q = absurd (omega (arith, x))
    apart n (suc (suc (suc m))) b x y p q = absurd (omega (arith, y))

    start_zero : (b : ℕ) → HasBit 0 (entry_at d0.map.parts.items b) → ⊥
    start_zero b has = (let none = ap (λ x. bit_at x 0) (start.entries b) ∙ start_none b 0 (λ is. absurd (omega (arith, is))) in absurd (omega (arith, none, has)))

    reached : (b : ℕ) → HasBit 0 (entry_at d3.map.parts.items b) → Reach (first_tree e top numbers map) b
    reached b has = elim ((has2.active b).0 has) [
      | inr is ↦ record { file = 2; names = (in2.named b).1 is }
      | inl before ↦ elim ((has0.active b).0 before) [
        | inr is ↦ record { file = 0; names = (in0.named b).1 is }
        | inl earlier ↦ elim ((has1.active b).0 earlier) [
          | inr is ↦ record { file = 1; names = (in1.named b).1 is }
          | inl was ↦ absurd (start_zero b was)
        ]
      ]
    ]

    given_out : (b : ℕ) → HasBit 0 (entry_at d3.map.parts.items b) → b < d4.map.next
    given_out b has = elim ((has2.active b).0 has) [
      | inr is ↦ omega (arith, (has2.given b is).to, grows4.next)
      | inl before ↦ elim ((has0.active b).0 before) [
        | inr is ↦ omega (arith, (has0.given b is).to, grows3.next, grows4.next)
        | inl earlier ↦ elim ((has1.active b).0 earlier) [
          | inr is ↦ omega (arith, (has1.given b is).to, grows2.next, grows3.next, grows4.next)
          | inl was ↦ absurd (start_zero b was)
        ]
      ]
    ]

    no_bit : (b k : ℕ) → d4.map.next ≤ b → bit_at (entry_at d3.map.parts.items b) k ≡ 0
    no_bit b zero past = elim (cases_eq (bit_at (entry_at d3.map.parts.items b) 0) 1) [
      | inl has ↦ (let low = given_out b has in absurd (omega (arith, past, low)))
      | inr not ↦ omega (arith, not, bit_at-lt (entry_at d3.map.parts.items b) 0)
    ]
    no_bit b (suc k) past =
        others_are b (suc k) (λ is. absurd (omega (arith, is))) ∙ start_past b (suc k) (omega (arith, past, start.next, grows1.next, grows2.next, grows3.next, grows4.next))

    pub entry_free : (b : ℕ) → d4.map.next ≤ b → entry (first_tree e top numbers map) b ≡ 0
    entry_free b past = entry_is b ∙ same_from_bits (entry_at d3.map.parts.items b) 0 (λ k. no_bit b k past ∙ sym (bit_at-zero k))

    marked : (n b : ℕ) → Names (first_tree e top numbers map n) b → HasBit 0 (entry_at d3.map.parts.items b)
    marked zero b names = (has2.active b).1 (inl ((has0.active b).1 (inr ((in0.named b).0 names))))
    marked (suc zero) b names = (has2.active b).1 (inl ((has0.active b).1 (inl ((has1.active b).1 (inr ((in1.named b).0 names))))))
    marked (suc (suc zero)) b names = (has2.active b).1 (inr ((in2.named b).0 names))
    marked (suc (suc (suc zero))) b names = absurd (none_named e (empty_directory top.layout) refl b names)
    marked (suc (suc (suc (suc n)))) b names = absurd (free_named top.layout e b names)

    first_block : (i : ℕ) → file_block (held e top) i ≡ (if i == 0 then inodes_block s.layout numbers map else zeros 4096)
    first_block i = (on0 e at2).blocks i ∙ ap (λ (x : List ℕ). if i == 0 then x else zeros 4096) (stored e has)

    pub first_tree_is : IsFirstTree s e top numbers map
    first_tree_is = record {
      numbers_kind = (on1 e at1).kind;
      map_kind = (on2 e at3).kind;
      files = three (λ n. IsSoundFile s (first_tree e top numbers map n)) in0.sound in1.sound in2.sound;
      spelled = first_spelled puts s.layout numbers map long_numbers long_map long_directory e s.inodes top top_layout are.least_inodes first_block;
      taken = (on1 e at1).taken;
      numbers_whole = (on1 e at1).whole;
      map_whole = (on2 e at3).whole;
      once = three (λ n. IsOnce (first_tree e top numbers map n)) in0.once in1.once in2.once;
      apart = apart;
      active = λ b. (
        λ has. reached b (subst (HasBit 0) (entry_is b) has),
        λ reach. subst (HasBit 0) (sym (entry_is b)) (marked reach.file b reach.names),
      );
      none = λ b k low other has. (let zero_is = sym (ap (λ x. bit_at x k) (entry_is b) ∙ others_are b k (λ is. absurd (omega (arith, is, low)))) ∙ has in
          let none_is = start_none b k other in absurd (omega (arith, zero_is, none_is)));
      system = λ b. (
        λ has. (start_system b).0 (sym (ap (λ x. bit_at x 31) (entry_is b) ∙ others_are b 31 (λ is. absurd (omega (arith, is)))) ∙ has),
        λ low. ap (λ x. bit_at x 31) (entry_is b) ∙ others_are b 31 (λ is. absurd (omega (arith, is))) ∙ (start_system b).1 low,
      );
    }

  pub all_planned : (e : Blocks) → HasAll e d4.blocks.items → HasTree s d4 top
  all_planned some has_some = record { numbers = numbers; map = map; tree = first_tree_is; free = entry_free; kind = (on0 some (at2 some has_some)).kind }
