-- What holds of a lawful board, act by act.
use Rattle.std.proofs.Common.{◌≡◌, ℕ, zero, suc, ◌+◌, ◌*◌, ◌/◌, ◌%◌, ◌<◌, ◌≤◌, Bool, true, false, cond, not, ◌&&◌, eqb}
use Rattle.std.proofs.Common.{List, [], ◌∷◌, length, get_or, IsSomeAnd, Some, None, Option, sym, refl, ap, ◌∙◌, subst, ap₂, inl, inr, le_of_suc-le-suc, not-suc-le-zero, arith}
use Rattle.std.proofs.lemmas.List.{get_or_append_left, get_or_push, length_push, take-append-le, take_at}
use Rattle.std.proofs.lemmas.Bool.{and_parts, both_ways, cases_lt, cond-false, cond-true, eq-eqb, eqb-false, eqb-true, false≢true, leb-false, ne_eqb, not-true, or_cases, or_left, or_right}
use Rattle.auctions.specs.Laws as auction
use Rattle.auctions.specs.Laws.Lawful.{none_yet, one_more}
use Rattle.auctions.proofs.Lengths.{at_most_319}
use Rattle.cards.specs.declared.chairs.Chair.{Chair}
use Rattle.cards.specs.declared.suits.Suit.{Suit}
use Rattle.cards.specs.declared.suits.Suit.TheVariants.{Clubs, Diamonds, Hearts, Spades}
use Rattle.cards.specs.Chairs.{ahead, code, place}
use Rattle.cards.specs.Pack.{suit_of}
use Rattle.cards.specs.Suits.{suit_with_code, code as suit_code}
use Rattle.cards.proofs.Turns.{same_code}
use Rattle.cards.proofs.Ways.{by}
use Rattle.cards.specs.Hands.{dealt, holds}
use Rattle.hands.specs.Hands.{is_void}
use Rattle.hands.specs.Laws.{is_among}
use Rattle.hands.proofs.Holdings.{dealt_there, held, held_some, held_without, none_there, remaining_more, remains, without_none}
use Rattle.tricks.specs.Cards.{card_ruling, follows, is_of, lowest_legal}
use Rattle.tricks.specs.Tricks.{led, same_suit}
use Rattle.tricks.proofs.Lowest.{LawfulCard, lawful_card, legal}
use Rattle.tricks.proofs.Rounds.{leader_kept}
use Rattle.laws.specs.History.{Board, after, declarer_on, hand, is_auction_over, is_finished, is_played_out, leader_at, leader_on, opening_leader, ruling_on, trumps_on, turn_on, with_call, with_card}
use Rattle.laws.specs.Lawful.{AtMost371, EachCardOnce, Lawful, LawfulDeal, OneToEachTrick, PlayedFromHand, SuitFollowed, WayOn, card_at, hand_before, lead_to, player}
use Rattle.laws.specs.Lawful.Lawful.{dealt as newly_dealt, acted}
use Rattle.laws.proofs.Deals.{receiver, thirteen}
use Rattle.laws.proofs.Places.{ahead_place, left, left_end, left_first, left_some, left_within, place_ahead, place_small}

-- what is true of a lawful board after each of its acts
record So (b : Board) : Type 0 where
  fair : LawfulDeal b.deal
  calling : auction.Lawful b.dealer b.calls
  unplayed : is_auction_over b ≡ false → b.cards ≡ []
  few : length b.cards ≤ 52
  rest : (c : Chair) → left (held (hand b.deal b.cards c) 52) (place (leader_on b) c) (length b.cards)
  from : (k : ℕ) → k < length b.cards → (card_at b k < 52) × (get_or b.deal (card_at b k) 0 ≡ code (player b k))
  once : (k : ℕ) → k < length b.cards → (j : ℕ) → j < k → card_at b j ≡ card_at b k → ⊥
  followed : (k : ℕ) → k < length b.cards → (x : ℕ) → holds (hand_before b k) x ≡ true → same_suit x (lead_to b k) ≡ true → same_suit (card_at b k) (lead_to b k) ≡ true

-- before the first card
undealt_cards : (b : Board) → LawfulDeal b.deal → auction.Lawful b.dealer b.calls → b.cards ≡ [] → So b
undealt_cards b f c e = record {
  fair = f;
  calling = c;
  unplayed = λ _. e;
  few = rw e (omega arith);
  rest = λ x. rw e (left_first _ _ (thirteen b.deal f x));
  from = λ k l. absurd (not-suc-le-zero (rw e at l));
  once = λ k l. absurd (not-suc-le-zero (rw e at l));
  followed = λ k l. absurd (not-suc-le-zero (rw e at l));
}

-- a card that stands among others is among them
among_at : (x : ℕ) (cs : List ℕ) (j : ℕ) → j < length cs → get_or cs j 0 ≡ x → is_among x cs ≡ true
among_at x [] j l e = absurd (not-suc-le-zero l)
among_at x (c ∷ cs) zero l e = or_left (eqb c x) (is_among x cs) (eq-eqb c x e)
among_at x (c ∷ cs) (suc j) l e = or_right (eqb c x) (is_among x cs) (among_at x cs j (le_of_suc-le-suc l) e)

-- the player of a card of a trick
player_in : (b : Board) (k n : ℕ) → n < 4 → player b (4 * k + n) ≡ ahead (leader_at b k) n
player_in b k n l =
    let q : (4 * k + n) / 4 ≡ k = omega arith in
    let r : (4 * k + n) % 4 ≡ n = omega arith in
    ap₂ (λ i j. ahead (leader_at b i) j) q r

-- the suit of a card of the pack
suit_there : (c : ℕ) → c < 52 → (s : Suit) × (suit_of c ≡ Some s) × (c / 13 ≡ suit_code s)
suit_there c l = go (c / 13) (omega arith)
  where
    go : (n : ℕ) → n < 4 → (s : Suit) × (suit_with_code n ≡ Some s) × (n ≡ suit_code s)
    go zero h = (Clubs, refl, refl)
    go (suc zero) h = (Diamonds, refl, refl)
    go (suc (suc zero)) h = (Hearts, refl, refl)
    go (suc (suc (suc zero))) h = (Spades, refl, refl)
    go (suc (suc (suc (suc n)))) h = absurd (let v : ⊥ = omega arith in v)

-- a hand that holds a card of the suit led follows suit
in_suit : (s : Suit) (h a x c : ℕ) → c / 13 ≡ suit_code s → follows (Some s) h a ≡ true → holds h x ≡ true → same_suit x c ≡ true → same_suit a c ≡ true
in_suit s h a x c e f y q = elim (or_cases (is_of s a) (is_void h s) f) [
  | inl p ↦ eq-eqb (a / 13) (c / 13) (eqb-true (a / 13) (suit_code s) p ∙ sym e)
  | inr p ↦ absurd (both_ways (holds h x) (none_there h (13 * suit_code s) 13 x p (omega (arith, eqb-true (x / 13) (c / 13) q)) (omega (arith, eqb-true (x / 13) (c / 13) q))) y)
]

module _ (b : Board) (so : So b) (a : ℕ) (room : length b.cards < 52) where
  abbrev n : ℕ
  n = length b.cards

  -- the chair in turn to play
  abbrev turn : Chair
  turn = ahead (leader_on b) (n % 4)

  abbrev held_by : Chair → ℕ
  held_by c = hand b.deal b.cards c

  abbrev next_board : Board
  next_board = with_card b a

  longer : length next_board.cards ≡ n + 1
  longer = length_push b.cards a

  before : (j : ℕ) → j < n → card_at next_board j ≡ card_at b j
  before j l = get_or_append_left b.cards (a ∷ []) 0 j l

  last : (j : ℕ) → j ≡ n → card_at next_board j ≡ a
  last j e = get_or_push b.cards a 0 j (sym e)

  leads : (k : ℕ) → 4 * k ≤ n → leader_at next_board k ≡ leader_at b k
  leads k l = leader_kept (trumps_on b) (opening_leader b) b.cards a k l

  player_kept : (k : ℕ) → k ≤ n → player next_board k ≡ player b k
  player_kept k l = ap (λ c. ahead c (k % 4)) (leads (k / 4) (omega arith))

  module _ (lawful : LawfulCard (led b.cards) (held_by turn) a) where
    -- the card was dealt to the chair in turn, and was not played before
    was : (holds (dealt b.deal (code turn)) a ≡ true) × (is_among a b.cards ≡ false)
    was = let p = and_parts (holds (dealt b.deal (code turn)) a) _ (sym (remains (dealt b.deal (code turn)) b.cards a) ∙ lawful.there) in (p.0, not-true _ p.1)

    in_deal : a < length b.deal
    in_deal = omega (arith, lawful.small, so.fair.0)

    mine : get_or b.deal a 0 ≡ code turn
    mine = eqb-true (get_or b.deal a 0) (code turn) (sym (dealt_there b.deal (code turn) a in_deal) ∙ was.0)

    -- nobody else holds it
    others : (c : Chair) → (place (leader_on b) c ≡ n % 4 → ⊥) → holds (held_by c) a ≡ false
    others c f =
        let apart : eqb (get_or b.deal a 0) (code c) ≡ false = ne_eqb _ _ (λ e. f (ap (place (leader_on b)) (same_code c turn (sym e ∙ mine)) ∙ place_ahead (leader_on b) (n % 4) (omega arith))) in
        remains (dealt b.deal (code c)) b.cards a ∙ ap (λ x. x && not (is_among a b.cards)) (dealt_there b.deal (code c) a in_deal ∙ apart)

    -- one card less in the hand of the chair in turn
    fewer : (c : Chair) → held (hand b.deal next_board.cards c) 52 + cond (eqb (place (leader_on b) c) (n % 4)) 1 0 ≡ held (held_by c) 52
    fewer c = rw (remaining_more (dealt b.deal (code c)) b.cards a) (by (eqb (place (leader_on b) c) (n % 4))
        (λ e. let me : c ≡ turn = sym (ahead_place (leader_on b) c) ∙ ap (ahead (leader_on b)) (eqb-true _ _ e) in
        rw e (held_without (held_by c) a 52 (subst (λ x. holds (held_by x) a ≡ true) (sym me) lawful.there) lawful.small))
        (λ e. rw (e, without_none (held_by c) a (others c (eqb-false _ _ e))) (omega arith)))

    rest_more : (c : Chair) → left (held (hand b.deal next_board.cards c) 52) (place (leader_on next_board) c) (length next_board.cards)
    rest_more c = rw longer (elim (cases_lt (n % 4) 3) [
      | inl l ↦ let same : (n + 1) / 4 ≡ n / 4 = omega arith in
          subst (λ x. left (held (hand b.deal next_board.cards c) 52) (place x c) (n + 1)) (sym (ap (leader_at next_board) same ∙ leads (n / 4) (omega arith)))
          (left_within _ (held (held_by c) 52) (place (leader_on b) c) n (fewer c) (so.rest c) l)
      | inr l ↦ left_end _ (held (held_by c) 52) (place (leader_on b) c) _ n (place_small (leader_on b) c) (fewer c) (so.rest c) (omega arith)
    ])

    from_more : (k : ℕ) → k < length next_board.cards → (card_at next_board k < 52) × (get_or b.deal (card_at next_board k) 0 ≡ code (player next_board k))
    from_more k l = elim (cases_lt k n) [
      | inl u ↦ rw (before k u, player_kept k (omega arith)) (so.from k u)
      | inr u ↦ let e : k ≡ n = omega (arith, longer) in rw (last k e, player_kept k (omega arith), e) (lawful.small, mine)
    ]

    once_more : (k : ℕ) → k < length next_board.cards → (j : ℕ) → j < k → card_at next_board j ≡ card_at next_board k → ⊥
    once_more k l j s e = elim (cases_lt k n) [
      | inl u ↦ so.once k u j s (sym (before j (omega arith)) ∙ e ∙ before k u)
      | inr u ↦ both_ways (is_among a b.cards) was.1 (among_at a b.cards j (omega (arith, longer)) (sym (before j (omega (arith, longer))) ∙ e ∙ last k (omega (arith, longer))))
    ]

    -- the card follows suit: it is led, or of the suit led, or the hand holds none of that suit
    follows_now : (x : ℕ) → holds (held_by turn) x ≡ true → same_suit x (lead_to next_board n) ≡ true → same_suit a (lead_to next_board n) ≡ true
    follows_now x h s = by (eqb (n % 4) 0)
        (λ e. let here : lead_to next_board n ≡ a = last (4 * (n / 4)) (omega (arith, eqb-true (n % 4) 0 e)) in rw here (eq-eqb (a / 13) (a / 13) refl))
        (λ e. let start : 4 * (n / 4) < n = omega (arith, eqb-false (n % 4) 0 e) in
        let first : lead_to next_board n ≡ card_at b (4 * (n / 4)) = before (4 * (n / 4)) start in
        let suit = suit_there (card_at b (4 * (n / 4))) (so.from (4 * (n / 4)) start).0 in
        let is_led : led b.cards ≡ Some suit.0 = cond-false (eqb (n % 4) 0) None (suit_of (card_at b (4 * (n / 4)))) e ∙ suit.1 in
        rw first (in_suit suit.0 (held_by turn) a x _ suit.2 (subst (λ o. follows o (held_by turn) a ≡ true) is_led lawful.follows_suit) h (rw first at s)))

    followed_more : (k : ℕ) → k < length next_board.cards → (x : ℕ) → holds (hand_before next_board k) x ≡ true → same_suit x (lead_to next_board k) ≡ true → same_suit (card_at next_board k) (lead_to next_board k) ≡ true
    followed_more k l x h s = elim (cases_lt k n) [
      | inl u ↦ let first : lead_to next_board k ≡ lead_to b k = before (4 * (k / 4)) (omega arith) in
          let held_then : hand_before next_board k ≡ hand_before b k = ap₂ (hand b.deal) (take-append-le k b.cards (a ∷ []) (omega arith)) (player_kept k (omega arith)) in
          rw (first, before k u) (so.followed k u x (subst (λ y. holds y x ≡ true) held_then h) (rw first at s))
      | inr u ↦ let e : k ≡ n = omega (arith, longer) in
          let held_then : hand_before next_board n ≡ held_by turn = ap₂ (hand b.deal) (take_at b.cards (a ∷ []) n refl) (player_kept n (omega arith)) in
          rw (last k e) (subst (λ i. same_suit a (lead_to next_board i) ≡ true) (sym e)
          (follows_now x (subst (λ y. holds y x ≡ true) (ap (hand_before next_board) e ∙ held_then) h) (subst (λ i. same_suit x (lead_to next_board i) ≡ true) e s)))
    ]

    card_more : is_auction_over b ≡ true → So next_board
    card_more o = record {
      fair = so.fair;
      calling = so.calling;
      unplayed = λ e. absurd (both_ways (is_auction_over b) e o);
      few = omega (arith, longer);
      rest = rest_more;
      from = from_more;
      once = once_more;
      followed = followed_more;
    }

-- a board in play has room for a card
room_in : (b : Board) → is_auction_over b ≡ true → is_finished b ≡ false → length b.cards < 52
room_in b o f = go (declarer_on b) (rw o at f)
  where
    go : (x : Option Chair) → is_played_out x b.cards ≡ false → length b.cards < 52
    go None e = absurd (false≢true (sym e))
    go (Some c) e = leb-false 52 (length b.cards) e

so_after : (b : Board) (a : ℕ) → So b → is_finished b ≡ false → ruling_on b a ≡ 0 → So (after b a)
so_after b a so f r = by (is_auction_over b)
    (λ o. subst So (sym (cond-true (is_auction_over b) (with_card b a) (with_call b a) o)) (card_more b so a (room_in b o f) (lawful_card _ _ a (rw o at r)) o))
    (λ o. subst So (sym (cond-false (is_auction_over b) (with_card b a) (with_call b a) o))
    (undealt_cards (with_call b a) so.fair (one_more b.calls a so.calling o (rw o at r)) (so.unplayed o)))

lawful_so : (b : Board) → Lawful b → So b
lawful_so b (newly_dealt n c v d f) = undealt_cards _ f none_yet refl
lawful_so b (acted before a l f r) = so_after before a (lawful_so before l) f r

pub at_most_371 : AtMost371
at_most_371 b l = let so = lawful_so b l in (at_most_319 b.dealer b.calls so.calling, so.few)

pub played_from_hand : PlayedFromHand
played_from_hand b l k u = let so = lawful_so b l in ((so.from k u).0, (so.from k u).1, so.once k u)

pub suit_followed : SuitFollowed
suit_followed b l = (lawful_so b l).followed

pub one_to_each_trick : OneToEachTrick
one_to_each_trick b k c =
    let lead : Chair = leader_at b k in (
      place lead c,
      place_small lead c,
      player_in b k (place lead c) (place_small lead c) ∙ ahead_place lead c,
      λ m l e. sym (place_ahead lead m l) ∙ ap (place lead) (sym (player_in b k m l) ∙ e),
    )

pub each_card_once : EachCardOnce
each_card_once b l x h =
    let so = lawful_so b l in
    let in_deal : x < length b.deal = omega (arith, so.fair.0) in
    let holder = receiver b.deal so.fair x h in
    by (is_among x b.cards)
    (λ e. inl (e, λ c. remains (dealt b.deal (code c)) b.cards x ∙ rw e (gone (holds (dealt b.deal (code c)) x))))
    (λ e. inr (
      e,
      (
        holder.0,
        remains (dealt b.deal (code holder.0)) b.cards x ∙ rw (e, dealt_there b.deal (code holder.0) x in_deal, eq-eqb _ _ (sym holder.1)) refl,
        λ c p.
            let was = and_parts (holds (dealt b.deal (code c)) x) _ (sym (remains (dealt b.deal (code c)) b.cards x) ∙ p) in
            same_code c holder.0 (sym (eqb-true (get_or b.deal x 0) (code c) (sym (dealt_there b.deal (code c) x in_deal) ∙ was.0)) ∙ sym holder.1),
      ),
    ))
  where
    gone : (t : Bool) → (t && false) ≡ false
    gone true = refl
    gone false = refl

pub way_on : WayOn
way_on b l f = (λ o. rw o refl, λ o. play o)
  where
    chosen : (x : Option ℕ) (h : ℕ) (s : Option Suit) → IsSomeAnd x (λ a. (card_ruling s h a ≡ 0) × ((y : ℕ) → y < a → card_ruling s h y ≡ 0 → ⊥)) → (a : ℕ) × (card_ruling s h a ≡ 0)
    chosen None h s p = absurd p
    chosen (Some a) h s p = (a, p.0)

    play : is_auction_over b ≡ true → (a : ℕ) × (a < 52) × (holds (hand b.deal b.cards (turn_on b)) a ≡ true) × (ruling_on b a ≡ 0)
    play o =
        let so = lawful_so b l in
        let turn : Chair = ahead (leader_on b) (length b.cards % 4) in
        let h : ℕ = hand b.deal b.cards turn in
        let seat : place (leader_on b) turn ≡ length b.cards % 4 = place_ahead (leader_on b) (length b.cards % 4) (omega arith) in
        let x = held_some h 52 (left_some _ (place (leader_on b) turn) (length b.cards) (so.rest turn) seat (room_in b o f)) in
        let y = chosen (lowest_legal (led b.cards) h) h (led b.cards) (legal (led b.cards) h x.0 x.1 x.2) in
        let card = lawful_card (led b.cards) h y.0 y.1 in
        (y.0, card.small, rw o card.there, rw o y.1)
