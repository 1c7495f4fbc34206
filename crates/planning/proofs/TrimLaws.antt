-- What a content stands for doesn't depend on what its blocks have past its end.
use Rattle.std.proofs.Common.{◌≡◌, ℕ, ◌/◌, ◌%◌, ◌<◌, List, slice_index, ap, sym, subst, ◌∙◌, arith}
use Rattle.std.proofs.lemmas.Bool.{cond_below}
use Rattle.std.proofs.lemmas.List.FromFn.{get_or-map-range_with_len, length-map-range_with_len, fill_by_all}
use Rattle.std.specs.Prelude.{Option, Some}
use Rattle.layout.specs.Bytes.{zeros}
use Rattle.layout.specs.Directory.{HoldsEntries}
use Rattle.layout.specs.FileBytes.{byte_in, first_bytes}
use Rattle.layout.specs.declared.kind.Kind.{Kind}
use Rattle.layout.specs.declared.kind.Kind.TheVariants as kinds
use Rattle.model.specs.Volumes.{Node, file_node, link_node}
use Rattle.blocktree.specs.Places.{block_count}
use Rattle.images.specs.Contents.{Content, StandsAs, content_bytes}
use Rattle.planning.specs.Numbers.{trimmed}

same_first : (f g : ℕ → ℕ) (n : ℕ) → ((p : ℕ) → p < n → f p ≡ g p) → first_bytes f n ≡ first_bytes g n
same_first f g n same = fill_by_all g (first_bytes f n) n 0 (length-map-range_with_len f 0 n) (λ k lt. get_or-map-range_with_len f 0 n k k 0 lt (omega arith) ∙ same k lt)

-- below the end nothing differs
block_same : (c : Content) (i : ℕ) → i < block_count c.size → (trimmed c).block i ≡ c.block i
block_same c i lt = sym (cond_below i (block_count c.size) (c.block i) (zeros 4096) lt)

bytes_same : (c : Content) → content_bytes (trimmed c) ≡ content_bytes c
bytes_same c = same_first (byte_in (trimmed c).block) (byte_in c.block) c.size
    (λ p lt. ap (λ (b : List ℕ). slice_index b (p % 4096)) (block_same c (p / 4096) (omega arith)))

pub trimmed_stands : (k : Kind) (inodes : ℕ) (c : Content) (o : Option Node) → StandsAs k inodes c o → StandsAs k inodes (trimmed c) o
trimmed_stands kinds.Free inodes c o is = is
trimmed_stands kinds.File inodes c o is = is ∙ ap (λ (bytes : List ℕ). Some (file_node c.attributes c.links bytes)) (sym (bytes_same c))
trimmed_stands kinds.Directory inodes c o is = (
  is.0,
  record {
    entries = is.1.entries;
    holds = λ i lt. subst (λ (b : List ℕ). HoldsEntries inodes b (is.1.entries i)) (sym (block_same c i (omega arith))) (is.1.holds i lt);
    past = is.1.past;
    are = is.1.are;
  },
  is.2,
)
trimmed_stands kinds.Link inodes c o is = is ∙ ap (λ (bytes : List ℕ). Some (link_node c.attributes bytes)) (sym (bytes_same c))
trimmed_stands kinds.InodeFile inodes c o is = is
trimmed_stands kinds.InodeMap inodes c o is = is
trimmed_stands kinds.BlockMap inodes c o is = is
