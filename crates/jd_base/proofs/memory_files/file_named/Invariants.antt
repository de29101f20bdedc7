use Rattle.std.proofs.Common.{◌≡◌, drop, map}
use Rattle.jd_base.specs.InMemory.{file_of, contents_of}
use Rattle.jd_base.proofs.memory_files.file_named.Given as goal

abbrev pub invariant-loop-held : goal.invariant-loop-held
invariant-loop-held l =
    contents_of (map file_of (drop l.held-index l.files)) l.name ≡ contents_of (map file_of l.files) l.name
