-- The line of a refusal, tried by computation on the definitions. The numbers are literals. Assumes nothing.
use mathlib.Core.Path.{◌≡◌, refl}
use mathlib.Core.List.{[], ◌∷◌}
use Rattle.text.specs.Ascii.{ascii}
use Rattle.image.specs.declared.refusals.ImageRefusal.TheVariants.{Header}
use Rattle.image.specs.declared.refusals.Refusal.TheVariants.{Image, TooShort}
use Rattle.image.specs.Refusals.{line}
use Rattle.refused.specs.Refused.{refused_line, refused_at_line}
use Rattle.refused.specs.Opened.{opened}

lines : refused_line (Image Header) ∷ refused_line TooShort ∷ refused_at_line line 3 ∷ refused_at_line line 1048577 ∷ []
    ≡ ascii "refused 2\n" ∷ ascii "refused 10\n" ∷ ascii "refused 51 line 3\n" ∷ ascii "refused 51 line 1048577\n" ∷ []
unfolding opened
lines = refl
