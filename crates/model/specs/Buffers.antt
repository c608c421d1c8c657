-- The reader and the lister with the buffers that are lent to them; 10 comes last.
use Rattle.std.specs.Prelude.{true, List, ◌≡◌, ℕ, ltb}
use Rattle.model.specs.Basic.{all}
use Rattle.model.specs.Outcome.{Outcome, accepted, and_then, into}
use Rattle.model.specs.Reader.{reads}
use Rattle.model.specs.Image.{image, loads}
use Rattle.model.specs.Listing.{listing}

-- the image of a text
unfoldable pub reads_into : ℕ → List ℕ → Outcome (List ℕ)
reads_into room s = and_then (reads s) (λ b. into room (image b))

-- the listing of an image
unfoldable pub lists_into : ℕ → List ℕ → Outcome (List ℕ)
lists_into room img = and_then (loads img) (λ b. into room (listing b))

-- a text of bytes reads to an image: given room, the reader's rules accept it and lay out that image
abbrev pub ReadsTo : List ℕ → List ℕ → Type 0
ReadsTo s img =
    (all (λ c. ltb c 256) s ≡ true) × (and_then (reads s) (λ b. accepted (image b)) ≡ accepted img)
