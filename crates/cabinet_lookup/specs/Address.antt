-- The address of the part that a lookup returns: the value still in place, in the list that has it (document 02, Item
-- 14). An address is a block of memory and a place in it, as the language's machine has them.
-- Assumes nothing.
use Rattle.cabinet_lookup.specs.declared.LookupSpan.{LookupSpan}
use Rattle.std.specs.Prelude.{ℕ, ◌+◌, Option, Some, None}
use Rattle.std.specs.Borrow.{Bor}
use Rattle.basics.specs.Types.{Length, StartBytes, Tag}
use Rattle.cabinet_lookup.specs.Place.{lookup_first}

-- the address so many bytes after another
abbrev pub address_after : Length → ℕ × ℕ → ℕ × ℕ
address_after n a = (a.0, n + a.1)

-- by the addresses of the two lists and what each has: in neither, the front of the defaults
unfoldable pub address_in_site_or_defaults : ℕ × ℕ → ℕ × ℕ → Option LookupSpan → Option LookupSpan → ℕ × ℕ
address_in_site_or_defaults s d (Some p) r = address_after p.start s
address_in_site_or_defaults s d None (Some p) = address_after p.start d
address_in_site_or_defaults s d None None = address_after 0 d

-- the address of the value of the tag, of two lists passed in
abbrev pub address_of_value : Tag → Bor StartBytes → Bor StartBytes → ℕ × ℕ
address_of_value tag site defaults =
    address_in_site_or_defaults site.ref_ptr defaults.ref_ptr (lookup_first tag site.now) (lookup_first tag defaults.now)
