-- What the code's account of a `return` stands for.
use Rattle.jd_tforms.specs.Sorted as plain
use Rattle.jd_tsorts.specs.declared.returns.Returns.{Returns}
use Rattle.jd_tsorts.specs.declared.returns.Returns.TheVariants as returns

abbrev pub returns_view : Returns → plain.Returns
returns_view returns.Free = plain.Free
returns_view returns.Nothing = plain.Nothing
returns_view (returns.Value s) = plain.Value s
