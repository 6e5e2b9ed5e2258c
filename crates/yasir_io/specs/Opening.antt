-- Files that are opened at the first call that needs them: how they begin, and what a call does to
-- them.
use Rattle.std.specs.Prelude.{◌≡◌, ◌⊎◌, ℕ, List, Bool, true, Option, Some, None, Result, IsErr, IsOk, ⊤}
use Rattle.std.specs.String.{string_bytes}
use Rattle.std.specs.declared.fs.OpenOptions.{OpenOptions}
use Rattle.std.specs.declared.string.String.{String}
use Rattle.std.specs.declared.alloc.Global.{Global}
use Rattle.yasir_io.specs.declared.lazy_file.OwnFile.{OwnFile}
use Rattle.yasir_io.specs.declared.lazy_file.OwnFile.TheVariants.{Closed, Waiting, Own}

-- Holds of a file that was opened with these options at this path, and to which nothing was done
-- since.
abbrev pub IsOpened : {F : Type 0} → (OpenOptions → List ℕ → F → Type 0) → OpenOptions
    → Option (String Global) → F → Type 0
IsOpened opened options None f = ⊥
IsOpened opened options (Some path) f = opened options (string_bytes path) f

-- Holds if there is no path, or if no file was opened there with these options.
abbrev pub IsRefused : (OpenOptions → List ℕ → Type 0) → OpenOptions → Option (String Global)
    → Type 0
IsRefused refused options None = ⊤
IsRefused refused options (Some path) = refused options (string_bytes path)

module _ {F : Type 0} (opened : OpenOptions → List ℕ → F → Type 0)
    (refused : OpenOptions → List ℕ → Type 0) where
  -- Holds if a call does P to a file. If no file is open, the call opens the one at the path, and
  -- does P to it, or it fails, since the file wasn't opened. A file that is open stays open.
  abbrev pub OnOpen : {T E : Type 0} → OpenOptions → Option (String Global) → Option F → Option F
      → Result T E → (F → F → Type 0) → Type 0
  OnOpen options path None None result P = IsErr result × IsRefused refused options path
  OnOpen options path None (Some g) result P = (f : F) × IsOpened opened options path f × P f g
  OnOpen options path (Some f) None result P = ⊥
  OnOpen options path (Some f) (Some g) result P = P f g

  -- Holds if a call opens the file at the path, unless it was opened before.
  abbrev pub OpensOnce : {T E : Type 0} → OpenOptions → Option (String Global) → OwnFile F
      → OwnFile F → Result T E → Type 0
  OpensOnce options path Closed Closed result = IsErr result × IsRefused refused options path
  OpensOnce options path Closed (Waiting f) result = IsOk result × IsOpened opened options path f
  OpensOnce options path Closed (Own f) result = ⊥
  OpensOnce options path (Waiting f) now result = IsOk result × (now ≡ Waiting f)
  OpensOnce options path (Own f) now result = IsOk result × (now ≡ Own f)

  module _ (taken : F → F → Type 0) (synced : F → Bool → Type 0) where
    -- Holds if a file's lock was taken, and then all of it was synced.
    abbrev pub BecomesOwn : F → F → Type 0
    BecomesOwn f g = taken f g × synced g true

    -- Holds if nothing was done to a file, but that its lock may have been taken.
    abbrev pub MayBeTaken : F → F → Type 0
    MayBeTaken f g = (g ≡ f) ⊎ taken f g

    -- Holds if a call does P to a file that the run has for itself. If it doesn't have it yet, the
    -- call opens the file at the path, unless an earlier call did, takes its lock and then syncs
    -- it, with nothing done to it before, and then does P to it. Or it fails, since the file wasn't
    -- opened, or wasn't locked and synced; then nothing else was done to it.
    abbrev pub OnOwn : {T E : Type 0} → OpenOptions → Option (String Global) → OwnFile F
        → OwnFile F → Result T E → (F → F → Type 0) → Type 0
    OnOwn options path Closed Closed result P = IsErr result × IsRefused refused options path
    OnOwn options path Closed (Waiting g) result P =
        IsErr result × ((f : F) × IsOpened opened options path f × MayBeTaken f g)
    OnOwn options path Closed (Own h) result P =
        (f : F) × IsOpened opened options path f × ((g : F) × BecomesOwn f g × P g h)
    OnOwn options path (Waiting f) Closed result P = ⊥
    OnOwn options path (Waiting f) (Waiting g) result P = IsErr result × MayBeTaken f g
    OnOwn options path (Waiting f) (Own h) result P = (g : F) × BecomesOwn f g × P g h
    OnOwn options path (Own f) (Own g) result P = P f g
    OnOwn options path (Own f) now result P = ⊥
