-- The fields that tell of bytes to be read or written, as they are kept.
use Rattle.fuse.specs.Bodies.{TransferFields}
use Rattle.fuse.specs.declared.bodies.transfers.Transfer.{Transfer}

abbrev pub transfer_of : Transfer → TransferFields
transfer_of t =
    (t.handle, (t.offset, (t.size, (t.transfer_flags, (t.lock_owner, (t.flags, t.padding))))))
