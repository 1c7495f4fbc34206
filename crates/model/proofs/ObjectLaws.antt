-- Objects, and the nodes that stand for them.
use Rattle.std.proofs.Common.{◌≡◌, ◌≢◌, ℕ, ◌==◌, true, Option, Some, None, IsSome, refl, sym, ap}
use Rattle.std.proofs.lemmas.Bool.{cond-true, cond-false, eq-eqb, false≢true, ne_eqb}
use Rattle.model.specs.Trees.{Object, directory, file, number_of_object, is_directory}
use Rattle.model.specs.Volumes.{Node, directory_node, file_node, link_node, Volume, with_node, object_of, is_directory_node}
use Rattle.model.proofs.OptionLaws.{none_some, some_same}

-- a directory isn't a file
pub directory_file : {Y : Type 0} {m n : ℕ} → directory m ≡ file n → Y
directory_file e = cc

pub object_number : (n : ℕ) (o : Option Node) (x : Object) → object_of n o ≡ Some x → number_of_object x ≡ n
object_number n None x is = none_some is
object_number n (Some (directory_node attributes names)) x is = ap number_of_object (sym (some_same is))
object_number n (Some (file_node attributes links bytes)) x is = ap number_of_object (sym (some_same is))
object_number n (Some (link_node attributes text)) x is = ap number_of_object (sym (some_same is))

pub directory_of : (n : ℕ) (o : Option Node) → is_directory (object_of n o) ≡ is_directory_node o
directory_of n None = refl
directory_of n (Some (directory_node attributes names)) = refl
directory_of n (Some (file_node attributes links bytes)) = refl
directory_of n (Some (link_node attributes text)) = refl

pub directory_object : (n : ℕ) (o : Option Node) → is_directory_node o ≡ true → object_of n o ≡ Some (directory n)
directory_object n None is = absurd (false≢true is)
directory_object n (Some (directory_node attributes names)) is = refl
directory_object n (Some (file_node attributes links bytes)) is = absurd (false≢true is)
directory_object n (Some (link_node attributes text)) is = absurd (false≢true is)

pub node_object : (n : ℕ) (o : Option Node) → IsSome o → IsSome (object_of n o)
node_object n None some = absurd (false≢true some)
node_object n (Some (directory_node attributes names)) some = refl
node_object n (Some (file_node attributes links bytes)) some = refl
node_object n (Some (link_node attributes text)) some = refl

-- a volume in which another node stands for a number
pub node_here : (n k : ℕ) (o : Option Node) (v : Volume) → k ≡ n → with_node n o v k ≡ o
node_here n k o v same = cond-true (k == n) o (v k) (eq-eqb k n same)

pub node_other : (n k : ℕ) (o : Option Node) (v : Volume) → k ≢ n → with_node n o v k ≡ v k
node_other n k o v other = cond-false (k == n) o (v k) (ne_eqb k n other)
