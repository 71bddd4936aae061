-- The number and the words of a refusal: those of the search or of the hand-out.
use Rattle.std.specs.Prelude.{ℕ, List}
use Rattle.search.specs.Numbers.{seek_number, hand_out_number}
use Rattle.search.specs.Words.{seek_words, hand_out_words}
use Rattle.routes.specs.declared.refusal.RouteRefusal.{RouteRefusal}
use Rattle.routes.specs.declared.refusal.RouteRefusal.TheVariants.{Seek, HandOut}

abbrev pub route_number : RouteRefusal → ℕ
route_number (Seek refusal) = seek_number refusal
route_number (HandOut refusal) = hand_out_number refusal

abbrev pub route_message : RouteRefusal → List ℕ
route_message (Seek refusal) = seek_words refusal
route_message (HandOut refusal) = hand_out_words refusal
