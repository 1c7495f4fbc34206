-- The names of an image's files.
use Rattle.std.specs.Prelude.{◌≡◌}
use Rattle.host_files.specs.declared.image.Image.{Image}

-- the disk and the NVRAM have one name
abbrev pub HasOneName : Image → Type 0
HasOneName image = image.disk.now ≡ image.nvram.now
