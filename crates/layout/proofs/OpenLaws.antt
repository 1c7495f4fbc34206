-- Two slots have one newest root, and the log over a root holds one list of records.
use Rattle.std.proofs.Common.{◌≡◌, inl, inr, ℕ, ◌+◌, ◌<◌, ◌^◌, List, [], ◌∷◌, ◌++◌, length, take, drop, refl, sym, ap, subst, ◌∙◌, arith, append_assoc}
use Rattle.std.proofs.lemmas.List.{take_at, drop_at}
use Rattle.byteorder.specs.Numbers.{length-bytes_low_first, little_number-reads_back}
use Rattle.byteorder.specs.Endian.{little_bytes}
use Rattle.layout.specs.Log.{half_of, opened, record_of, HoldsBodies, EpochHolds, LogHolds}
use Rattle.layout.specs.Opens.{HoldsRoot, IsNewest}
use Rattle.layout.specs.declared.root.Root.{Root}
use Rattle.layout.proofs.RootLaws.{root_injective}
use Rattle.layout.proofs.LogLemmas.{record_is}

-- a slot holds one root at most
pub root_once : (bytes : List ℕ) (q r : Root) → HoldsRoot bytes q → HoldsRoot bytes r → q ≡ r
root_once bytes q r first second = root_injective q r first.root second.root (sym first.spelled ∙ second.spelled)

-- two slots have one newest root at most
pub newest_once : (a b : List ℕ) (q r : Root) → IsNewest q a b → IsNewest r a b → q ≡ r
newest_once a b q r (inl first) (inl second) = root_once a q r first.0 second.0
newest_once a b q r (inr first) (inr second) = root_once b q r first.0 second.0
newest_once a b q r (inl first) (inr second) = absurd (omega (arith, (first.1 r second.0).0, (second.1 q first.0).0))
newest_once a b q r (inr first) (inl second) = absurd (omega (arith, (first.1 r second.0).0, (second.1 q first.0).0))

-- two lists of one length stand in front of one list alike
pub front_once : (xs ys rs ss : List ℕ) → length xs ≡ length ys → xs ++ rs ≡ ys ++ ss → (xs ≡ ys) × (rs ≡ ss)
front_once xs ys rs ss same e = (
  sym (take_at xs rs (length ys) same) ∙ ap (take (length ys)) e ∙ take_at ys ss (length ys) refl,
  sym (drop_at xs rs (length ys) same) ∙ ap (drop (length ys)) e ∙ drop_at ys ss (length ys) refl,
)

-- a record's bytes tell its body
pub record_once : (x y rs ss : List ℕ) → length x < 2 ^ 32 → length y < 2 ^ 32 → record_of x ++ rs ≡ record_of y ++ ss → (x ≡ y) × (rs ≡ ss)
record_once x y rs ss short short_too e =
    let head = little_bytes 4 (length x) in
    let is = record_is head (x ++ rs) y ss (length-bytes_low_first 0 4 (length x)) short_too (sym (append_assoc (1 ∷ head) x rs) ∙ e) in
    let same : length x ≡ length y = sym (little_number-reads_back 4 (length x) [] short) ∙ is.0 in
    front_once x y rs ss same is.1

-- the bytes from a gate on hold one list of bodies
pub bodies_once : (bytes : List ℕ) (first second : List (List ℕ)) → HoldsBodies bytes first → HoldsBodies bytes second → first ≡ second
bodies_once bytes [] [] one other = refl
bodies_once bytes [] (body ∷ bodies) one other = let e : 0 ∷ one.0 ≡ record_of body ++ other.0 = sym one.1 ∙ other.2 in cc
bodies_once bytes (body ∷ bodies) [] one other = let e : 0 ∷ other.0 ≡ record_of body ++ one.0 = sym other.1 ∙ one.2 in cc
bodies_once bytes (x ∷ xs) (y ∷ ys) one other =
    let same = record_once x y one.0 other.0 one.1 other.1 (sym one.2 ∙ other.2) in
    let rest = bodies_once one.0 xs ys one.3 (subst (λ (l : List ℕ). HoldsBodies l ys) (sym same.1) other.3) in
    λ i. same.0 i ∷ rest i

-- a half holds one list of bodies of its epoch
epoch_once : (epoch : ℕ) (bytes : List ℕ) (first second : List (List ℕ)) → EpochHolds epoch bytes first → EpochHolds epoch bytes second → first ≡ second
epoch_once epoch bytes first second (inl one) (inl other) =
    let same = front_once (opened epoch) (opened epoch) one.0 other.0 refl (sym one.1 ∙ other.1) in
    bodies_once one.0 first second one.2 (subst (λ (l : List ℕ). HoldsBodies l second) (sym same.1) other.2)
epoch_once epoch bytes first second (inl one) (inr other) = absurd (other.0.not_open one.0 one.1)
epoch_once epoch bytes first second (inr one) (inl other) = absurd (one.0.not_open other.0 other.1)
epoch_once epoch bytes first second (inr one) (inr other) = one.1 ∙ sym other.1

-- the log holds one list of bodies
pub log_once : (half g : ℕ) (nvram : List ℕ) (first second : List (List ℕ)) → LogHolds half g nvram first → LogHolds half g nvram second → first ≡ second
log_once half g nvram first second one other =
    let next = epoch_once (g + 1) (half_of half (g + 1) nvram) one.first other.first one.first_held other.first_held in
    let after = epoch_once (g + 2) (half_of half (g + 2) nvram) one.second other.second one.second_held other.second_held in
    one.in_order ∙ (λ i. next i ++ after i) ∙ sym other.in_order
