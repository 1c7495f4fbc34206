use Rattle.std.proofs.Common.{◌≡◌, List, ℕ, length, ap, sym, ◌∙◌, rules}
use Rattle.layout.specs.Maps.{map_entry}
use Rattle.layout.specs.Pointer.{pointer_number}
use Rattle.conspoint.proofs.map_file.store_part.Goals as goal

pub put-requires : goal.put-requires
put-requires c = c.requires.reserved c.in-Block.place c.in-Block.is

pub returns-in_ok-put-clause-stored : goal.returns-in_ok-put-clause-stored
returns-in_ok-put-clause-stored c e has b is =
    let at : c.in-Block.place ≡ b = ap pointer_number (sym c.in-Block.is ∙ is) in
    let bytes : e b ≡ c.map_bytes.result = ap e (sym at) ∙ c.in_ok-put.ensures.stored e has ∙ c.in_ok-bytes.ensures in
    record {
      size = ap length bytes ∙ search rules;
      entries = λ i lt. ap (λ (xs : List ℕ). map_entry xs i) bytes ∙ c.map_bytes.ensures i lt;
    }
