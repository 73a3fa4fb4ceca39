-- The versions that a host can request (docs/HOST.md): the library's in three parts, and the record layout's.
-- Assumes nothing.
use Rattle.std.specs.Prelude.{◌+◌, ◌*◌}
use Rattle.basics.specs.Types.{ResultWord}
use Rattle.layout.specs.Layout.{layout_version}

-- the library's version 0.1.0, one byte for each part, and the lowest byte for the layout's version
abbrev pub version_word : ResultWord
version_word = 0 * 0x1000000 + 1 * 0x10000 + 0 * 0x100 + layout_version
