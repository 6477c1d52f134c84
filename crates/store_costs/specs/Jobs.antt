-- What the visitor and the editor of the jobs do. Assumes nothing.
use Rattle.std.specs.Prelude.{◌+◌, ◌*◌, ◌%◌, ◌^◌, cond, ◌==◌, bit_and}
use Rattle.stores.specs.declared.rows.Row.{Row}
use Rattle.stores.specs.declared.rows.Fate.{Fate}
use Rattle.stores.specs.declared.rows.Fate.TheVariants.{Keep, Remove}
use Rattle.store_costs.specs.declared.Digest.{Digest}
use Rattle.store_costs.specs.declared.Masked.{Masked}

-- The next key goes into the number, which is cut to 64 bits.
abbrev pub noted : Digest → Row → Digest
noted v r = record { digest = (v.digest * 31 % 2 ^ 64 + r.key) % 2 ^ 64 }

-- A row whose key has no bit of the mask is removed, every other kept.
abbrev pub masked : Masked → Row → Fate
masked e r = cond (bit_and r.key e.mask == 0) Remove Keep
