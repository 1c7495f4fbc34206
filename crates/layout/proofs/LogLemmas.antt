-- Lemmas on the halves of the NVRAM.
use Rattle.std.proofs.Common.{◌≡◌, ◌≢◌, inl, ℕ, suc, ◌<◌, ◌^◌, List, [], ◌∷◌, ◌++◌, length, take, drop, get_or, refl, sym, ap, ◌∙◌, subst, arith, length-append}
use Rattle.byteorder.specs.Endian.{little_number, little_bytes}
use Rattle.byteorder.specs.Numbers.{little_from-take, little_number-reads_back, length-bytes_low_first}
use Rattle.layout.specs.Log.{record_of, HoldsBodies, opened, IsClosed, IsUnopened}
use Rattle.layout.proofs.NumberLaws.{little_bytes-number}

head-append : (xs ys zs ws : List ℕ) → length xs ≡ length zs → xs ++ ys ≡ zs ++ ws → (xs ≡ zs) × (ys ≡ ws)
head-append [] ys [] ws same e = (refl, e)
head-append [] ys (z ∷ zs) ws same e = absurd (omega arith)
head-append (x ∷ xs) ys [] ws same e = absurd (omega arith)
head-append (x ∷ xs) ys (z ∷ zs) ws same e =
    let here : x ≡ z = cc in
    let there : xs ++ ys ≡ zs ++ ws = cc in
    let rest = head-append xs ys zs ws (omega arith) there in
    ((λ i. here i ∷ rest.0 i), rest.1)

-- a record whose length is given by four bytes
pub record_is : (head behind body rest : List ℕ) → length head ≡ 4 → length body < 2 ^ 32 → 1 ∷ head ++ behind ≡ record_of body ++ rest → (little_number 4 head ≡ length body) × (behind ≡ body ++ rest)
record_is head behind body rest four fits e =
    let inner : head ++ behind ≡ little_bytes 4 (length body) ++ (body ++ rest) = cc in
    let parts = head-append head behind (little_bytes 4 (length body)) (body ++ rest) (four ∙ sym (length-bytes_low_first 0 4 (length body))) inner in
    let back = little_number-reads_back 4 (length body) [] fits in
    (ap (little_number 4) parts.0 ∙ back, parts.1)

-- behind an open gate no record stands where its length or its body is cut short
pub cut_short : (behind : List ℕ) (bodies : List (List ℕ)) → length behind < 4 → HoldsBodies (1 ∷ behind) bodies → ⊥
cut_short behind [] short holds = let e : 1 ∷ behind ≡ 0 ∷ holds.0 = holds.1 in cc
cut_short behind (body ∷ bodies) short holds =
    let e : 1 ∷ behind ≡ record_of body ++ holds.0 = holds.2 in
    absurd (omega (arith, ap length e, length-append (record_of body) holds.0))

pub body_short : (head behind : List ℕ) (bodies : List (List ℕ)) → length head ≡ 4 → length behind < little_number 4 head → HoldsBodies (1 ∷ head ++ behind) bodies → ⊥
body_short head behind [] four short holds = let e : 1 ∷ head ++ behind ≡ 0 ∷ holds.0 = holds.1 in cc
body_short head behind (body ∷ bodies) four short holds =
    let is = record_is head behind body holds.0 four holds.1 holds.2 in
    absurd (omega (arith, is.0, ap length is.1, length-append body holds.0))

pub no_gate : (byte : ℕ) (behind : List ℕ) (bodies : List (List ℕ)) → byte ≢ 0 → byte ≢ 1 → HoldsBodies (byte ∷ behind) bodies → ⊥
no_gate byte behind [] not_shut not_open holds = let e : byte ∷ behind ≡ 0 ∷ holds.0 = holds.1 in not_shut (cc)
no_gate byte behind (body ∷ bodies) not_shut not_open holds = let e : byte ∷ behind ≡ record_of body ++ holds.0 = holds.2 in not_open (cc)

pub nothing : (bytes : List ℕ) (bodies : List (List ℕ)) → length bytes < 1 → HoldsBodies bytes bodies → ⊥
nothing bytes [] empty holds = absurd (omega (arith, ap length holds.1))
nothing bytes (body ∷ bodies) empty holds = absurd (omega (arith, ap length holds.2, length-append (record_of body) holds.0))

-- the header of a half that is open for an epoch
pub open_header : (epoch : List ℕ) → length epoch ≡ 8 → ((i : ℕ) → get_or epoch i 0 < 256) → 1 ∷ epoch ≡ opened (little_number 8 epoch)
open_header epoch eight fits =
    let spelled : little_bytes 8 (little_number 8 epoch) ≡ epoch = subst (λ (n : ℕ). little_bytes n (little_number n epoch) ≡ epoch) eight (little_bytes-number epoch fits) in
    ap (λ (l : List ℕ). 1 ∷ l) (sym spelled)

-- an open half's nine first bytes
pub open_bytes : (bytes : List ℕ) (epoch : ℕ) → length bytes ≡ 9 → get_or bytes 0 0 ≡ 1 → ((i : ℕ) → get_or bytes i 0 < 256) → epoch ≡ little_number 8 (take 8 (drop 1 bytes)) → bytes ≡ opened epoch
open_bytes [] epoch nine one fits is = absurd (omega arith)
open_bytes (gate ∷ rest) epoch nine one fits is =
    let header : 1 ∷ rest ≡ opened (little_number 8 rest) = open_header rest (omega arith) (λ i. fits (suc i)) in
    ap (λ (g : ℕ). g ∷ rest) one ∙ header ∙ ap opened (sym (is ∙ little_from-take 0 8 8 rest (omega arith)))

-- a closed half is open for no epoch
pub closed_unopened : (epoch : ℕ) (bytes : List ℕ) → IsClosed bytes → IsUnopened epoch bytes
closed_unopened epoch bytes shut =
    record { earlier = inl shut; not_open = λ rest is. let e : 0 ∷ shut.0 ≡ opened epoch ++ rest = sym shut.1 ∙ is in cc }
