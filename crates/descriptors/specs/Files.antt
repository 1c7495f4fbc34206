-- Open files, and the descriptions that they stand for.
use Rattle.std.specs.Prelude.{ℕ, ◌≤◌, ◌==◌, if◌then◌else◌, length, Option, Some, None}
use Rattle.model.specs.Descriptors.{is_reading, is_writing}
use Rattle.model.specs.Trees.{Description}
use Rattle.model.specs.declared.limits.TheConstants.{GREATEST_OFFSET}
use Rattle.model.specs.Volumes.{Node, directory_node, file_node, link_node}
use Rattle.descriptors.specs.declared.open_file.OpenFile.{OpenFile}

-- the description of an open file
abbrev pub description_of : OpenFile → Description
description_of f = record {
  number = f.number;
  offset = f.offset;
  reads = is_reading f.access;
  writes = is_writing f.access;
  appends = f.appends;
}

-- an open file's offset and size keep to the bound of offsets
pub record KeepsBounds (f : OpenFile) : Type 0 where
  pub offset : f.offset ≤ GREATEST_OFFSET
  pub size : f.size ≤ GREATEST_OFFSET

-- what an open file keeps beside its description: how many names the file has, and how many bytes
pub record Figures : Type 0 where
  pub links : ℕ
  pub size : ℕ

-- the same of an open file
abbrev pub figures_of : OpenFile → Figures
figures_of f = record { links = f.links; size = f.size }

-- the same of an object of a volume; only a file has any
abbrev pub node_figures : Option Node → Option Figures
node_figures (Some (file_node attributes links bytes)) = Some (record { links = links; size = length bytes })
node_figures (Some (directory_node attributes names)) = None
node_figures (Some (link_node attributes text)) = None
node_figures None = None

-- figures with so many bytes
abbrev pub with_size : ℕ → Figures → Figures
with_size size figures = record figures { size = size }

-- figures with so many names
abbrev pub with_figure_links : ℕ → Figures → Figures
with_figure_links links figures = record figures { links = links }

-- an open file with so many bytes, where it is the file n
abbrev pub resized_file : ℕ → ℕ → OpenFile → OpenFile
resized_file n size f = if f.number == n then record f { size = size } else f

-- an open file with so many names, where it is the file n
abbrev pub relinked_file : ℕ → ℕ → OpenFile → OpenFile
relinked_file n links f = if f.number == n then record f { links = links } else f

-- an open file with the links and the size of another, where both are the same file
abbrev pub refigured_file : OpenFile → OpenFile → OpenFile
refigured_file file f =
    if f.number == file.number then record f { size = file.size; links = file.links } else f
