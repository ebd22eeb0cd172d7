-- What a loan of a cached line's bytes does to the cache.
use Rattle.std.proofs.Common.{ℕ, ◌<◌, List, arith}
use Rattle.line_cache.specs.declared.way.Way.{Way}
use Rattle.line_cache.specs.Ways.{Cache, cache_with_bytes, way_at, way_with_bytes}
use Rattle.line_cache.specs.Lines.{IsCache, IsFilled, WritesLine}
use Rattle.line_cache.proofs.Search.{filled_within}
use Rattle.line_cache.proofs.Changes.{Fits, IsCache-set, line_in-other, line_in-set}

module _ (cache : Cache) (sound : IsCache cache) (place : ℕ) (filled : IsFilled cache.ways place)
    (bytes : List ℕ) where
  abbrev way : Way
  way = way_with_bytes (way_at cache.ways place) bytes

  within : place < 128
  within =
      let low = filled_within cache.ways place filled in let places = sound.places in omega arith

  fits : Fits cache place way
  fits = record {
    in_set = λ _. sound.in_set place filled;
    alone = λ _ other differs holds. differs (sound.once place other filled holds);
    known = sound.known place;
    inside = sound.inside place;
  }

  pub with_bytes_is_cache : IsCache (cache_with_bytes cache place bytes)
  with_bytes_is_cache = IsCache-set cache sound place within way cache.pointers fits sound.sets

  pub writes_line : WritesLine cache.ways (cache_with_bytes cache place bytes).ways place bytes
  writes_line = record {
    this_line = line_in-set cache sound place within way cache.pointers fits sound.sets filled;
    other_lines = λ who other some not_here.
        line_in-other cache sound place within way cache.pointers fits sound.sets who other some
        (λ holds. not_here (record { its_slot = holds.its_slot; its_line = holds.its_line }))
        not_here;
  }
