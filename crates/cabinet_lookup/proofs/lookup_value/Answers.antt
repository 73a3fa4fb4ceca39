-- `cabinet_lookup::lookup_value` meets its contract: by what `first` finds in each list, the bytes (`site_part`,
-- `default_part`, `no_part`) and the address (`site_address`, `default_address`, `no_address`); by these the word names
-- the part (`returned`).
-- Assumes nothing.
use mathlib.Core.Path.{sym, ◌∙◌}
use native.Mathlib.Omega.{arith}
use Rattle.cabinet_lookup.proofs.Laws.{found_inside, site_part, default_part, no_part, site_address}
use Rattle.cabinet_lookup.proofs.Laws.{default_address, no_address}
use Rattle.cabinet_lookup.proofs.Named.{returned}
use Rattle.cabinet_lookup.proofs.lookup_value.Goals as goal

pub of-requires : goal.of-requires
of-requires c = found_inside _ _ c.in-Some.p (sym c.first.ensures ∙ c.in-Some.is)

pub returns-in-Some : goal.returns-in-Some
returns-in-Some c =
    let e = sym c.first.ensures ∙ c.in-Some.is in
    let r = returned _ _ _ _ (λ i. omega (arith, c.type_inv.site i)) (λ i. omega (arith, c.type_inv.defaults i))
    (rw c.of.ensures.value (site_part _ _ _ c.in-Some.p e)) (c.of.ensures.in_place ∙ site_address _ _ _ _ c.in-Some.p e) in
    record { value = r.0; place = r.1.0; in_place = r.1.1.0; named = r.1.1.1 }

pub of-requires-in-Some-first : goal.of-requires-in-Some-first
of-requires-in-Some-first c = found_inside _ _ c.in-Some-first.p (sym c.first-2.ensures ∙ c.in-Some-first.is)

pub returns-in-Some-first : goal.returns-in-Some-first
returns-in-Some-first c =
    let n = sym c.first.ensures ∙ c.in_default.is in
    let e = sym c.first-2.ensures ∙ c.in-Some-first.is in
    let of = c.of-in-Some-first.ensures in
    let r = returned _ _ _ _ (λ i. omega (arith, c.type_inv.site i)) (λ i. omega (arith, c.type_inv.defaults i))
    (rw of.value (default_part _ _ _ n c.in-Some-first.p e)) (of.in_place ∙ default_address _ _ _ _ n c.in-Some-first.p e) in
    record { value = r.0; place = r.1.0; in_place = r.1.1.0; named = r.1.1.1 }

pub returns-in-None : goal.returns-in-None
returns-in-None c =
    let n = sym c.first.ensures ∙ c.in_default.is in
    let e = sym c.first-2.ensures ∙ c.in-None.is in
    let r = returned _ _ _ _ (λ i. omega (arith, c.type_inv.site i)) (λ i. omega (arith, c.type_inv.defaults i))
    (no_part _ _ _ n e) (no_address _ _ _ _ n e) in
    record { value = r.0; place = r.1.0; in_place = r.1.1.0; named = r.1.1.1 }
