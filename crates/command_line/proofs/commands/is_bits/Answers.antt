use Rattle.std.proofs.Common.{◌≡◌, ℕ, List, [], ◌∷◌, length, Bool, false, eqb, leb, ◌&&◌, arith, rules, tests}
use Rattle.std.proofs.lemmas.Bool.{lt-ltb}
use Rattle.std.proofs.lemmas.Iterator.{YieldsList-from_slice}
use Rattle.std.proofs.lemmas.Iterator.Search.{all_from_yields_List}
use Rattle.std.specs.List.{list_all}
use Rattle.command_line.specs.Lines.{is_bits}
use Rattle.command_line.proofs.commands.is_bits.Goals as goal

abbrev is_bit : ℕ → Bool
is_bit b = leb 48 b && leb b 50

bits_are : (t : List ℕ) (is_empty r : Bool) → is_empty ≡ eqb (length t) 0 → is_empty ≡ false → r ≡ list_all is_bit t → r ≡ is_bits t
bits_are [] is_empty r is some all = absurd (cc)
bits_are (x ∷ xs) is_empty r is some all = rw (lt-ltb 0 (length (x ∷ xs)) (omega arith)) all

pub returns-then-not-is_empty : goal.returns-then-not-is_empty
returns-then-not-is_empty c =
    let t = c.args.text.now in
    bits_are t c.is_empty.result c.all.result c.is_empty.ensures c.if-not-is_empty.true
    (all_from_yields_List is_bit _ _ _ c.all.ensures.ran (YieldsList-from_slice t cc) (λ x b q k. search (rules, tests)))
