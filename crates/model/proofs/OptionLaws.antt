-- What is there, and what isn't.
use Rattle.std.proofs.Common.{◌≡◌, ◌⊎◌, inl, inr, Option, Some, None, is_some, IsSome, refl, sym, ap, ◌∙◌}
use Rattle.std.proofs.lemmas.Bool.{false≢true}

pub none_some : {X Y : Type 0} {x : X} → None ≡ Some x → Y
none_some e = cc

pub some_none : {X Y : Type 0} {x : X} → Some x ≡ None → Y
some_none e = cc

pub some_same : {X : Type 0} {x y : X} → Some x ≡ Some y → x ≡ y
some_same e = cc

-- it isn't there, and is
pub absent : {X Y : Type 0} (o : Option X) → o ≡ None → IsSome o → Y
absent o is some = absurd (false≢true (sym (ap is_some is) ∙ some))

-- it is there, or isn't
pub some_or_none : {X : Type 0} (o : Option X) → IsSome o ⊎ (o ≡ None)
some_or_none None = inr refl
some_or_none (Some x) = inl refl
