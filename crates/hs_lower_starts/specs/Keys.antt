-- What a constant and the scalar that it is for have in common.
use Rattle.hs_meaning.specs.Scalars.{Scalar}
use Rattle.hs_tree.specs.declared.constant.Part.{Part}
use Rattle.hs_lower_starts.specs.declared.key.Key.{Key}

-- of a scalar
abbrev pub key_of_scalar : Scalar → Key
key_of_scalar its = record { offset = its.offset; number = its.type_id.number }

-- of a constant
abbrev pub key_of_part : Part → Key
key_of_part part = record { offset = part.offset; number = part.type_id.number }
