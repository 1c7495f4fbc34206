use Rattle.std.proofs.Common.{◌∙◌}
use Rattle.file_station.proofs.MemoryLemmas.{goes_refused, goes_write, contents_written}
use Rattle.file_station.specs.declared.image_files.Part.TheVariants.{Disk, Nvram}
use Rattle.file_station.proofs.memory_files.MemoryFilesImageFiles.write.Goals as goal

pub returns-in_default-clause-goes : goal.returns-in_default-clause-goes
returns-in_default-clause-goes c = goes_refused _ _ _ _ c.args.part c.args.at c.args.bytes.now c.in_default.ensures.err

pub returns-in-Nvram-clause-goes : goal.returns-in-Nvram-clause-goes
returns-in-Nvram-clause-goes c = goes_write _ _ _ _ c.args.part c.args.at c.args.bytes.now c.in-Ok.ensures.ok

pub invariant_of-self-in-Disk : goal.invariant_of-self-in-Disk
invariant_of-self-in-Disk c =
    let s = c.args.self.now in
    record {
      disk_is = c.put.ensures.after ∙ contents_written s.first_disk.items s.first_nvram.items s.writes.items _ c.args.part c.args.at c.args.bytes.now c.in-Ok.ensures.ok Disk Disk s.first_disk.items s.disk.items c.in-Disk.is s.disk_is;
      nvram_is = contents_written s.first_disk.items s.first_nvram.items s.writes.items _ c.args.part c.args.at c.args.bytes.now c.in-Ok.ensures.ok Nvram Disk s.first_nvram.items s.nvram.items c.in-Disk.is s.nvram_is;
      disk_size = c.put.ensures.length ∙ s.disk_size;
      nvram_size = s.nvram_size;
    }

pub invariant_of-self-in-Nvram : goal.invariant_of-self-in-Nvram
invariant_of-self-in-Nvram c =
    let s = c.args.self.now in
    record {
      disk_is = contents_written s.first_disk.items s.first_nvram.items s.writes.items _ c.args.part c.args.at c.args.bytes.now c.in-Ok.ensures.ok Disk Nvram s.first_disk.items s.disk.items c.in-Nvram.is s.disk_is;
      nvram_is = c.put-in-Nvram.ensures.after ∙ contents_written s.first_disk.items s.first_nvram.items s.writes.items _ c.args.part c.args.at c.args.bytes.now c.in-Ok.ensures.ok Nvram Nvram s.first_nvram.items s.nvram.items c.in-Nvram.is s.nvram_is;
      disk_size = s.disk_size;
      nvram_size = c.put-in-Nvram.ensures.length ∙ s.nvram_size;
    }
