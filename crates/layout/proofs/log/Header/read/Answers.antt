use Rattle.std.proofs.Common.{◌≡◌, ◌∙◌, take, drop}
use Rattle.byteorder.specs.Endian.{little_number}
use Rattle.layout.proofs.LogLemmas.{open_bytes}
use Rattle.layout.proofs.log.Header.read.Goals as goal

pub returns-in-1 : goal.returns-in-1
returns-in-1 c =
    let is : c.read_u64.result ≡ little_number 8 (take 8 (drop 1 c.args.bytes.now)) = c.read_u64.ensures in
    open_bytes c.args.bytes.now c.new.result c.told-bytes c.in-1.is c.fits-bytes (c.new.ensures ∙ is)
