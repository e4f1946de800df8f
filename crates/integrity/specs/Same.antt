-- Whether two keys, values or messages are the same is decided: by the tests that the verifier uses, which are equality.
use Rattle.std.specs.Prelude.{◌≡◌, refl, Bool, true, false, ℕ, eqb}
use Rattle.std.proofs.Common.{sym, ◌∙◌, ap, true≢false, eqb-true, eq-eqb}
use Rattle.key.specs.Keys.{key_eq}
use Rattle.key.specs.declared.Key.{Key}
use Rattle.key.proofs.Laws.{key_eq_true, key_eq_refl}
use Rattle.value.specs.Values.{value_eq}
use Rattle.value.specs.declared.Value.{Value}
use Rattle.value.proofs.Equal.{value_eq_true, value_eq_refl}
use Rattle.message.specs.declared.Message.{Message}

-- a decision, by what a test came to
abbrev pub decision : {A : Type 0} {a b : A} (x z : Bool) → x ≡ z → (x ≡ true → a ≡ b) → (x ≡ false → a ≡ b → ⊥) → Dec (a ≡ b)
decision x true e f g = yes (f e)
decision x false e f g = no (g e)

-- a test that holds of equals and of nothing else is a decision
abbrev pub decided : {A : Type 0} (t : A → A → Bool) → ((a b : A) → t a b ≡ true → a ≡ b) → ((a : A) → t a a ≡ true) → Discrete A
decided t f g a b = decision (t a b) (t a b) refl (f a b) (λ e q. true≢false (sym (g a) ∙ ap (t a) q ∙ e))

unfoldable pub number_dec : Discrete ℕ
number_dec = decided eqb eqb-true (λ n. eq-eqb n n refl)

unfoldable pub key_dec : Discrete Key
key_dec = decided key_eq key_eq_true key_eq_refl

unfoldable pub value_dec : Discrete Value
value_dec = decided value_eq value_eq_true value_eq_refl

-- messages are the same where epoch, time, key and value are
abbrev pub together : {a b : Message} → Dec (a.epoch.0 ≡ b.epoch.0) → Dec (a.time.0 ≡ b.time.0) → Dec (a.key ≡ b.key) → Dec (a.value ≡ b.value) → Dec (a ≡ b)
together (yes p) (yes q) (yes r) (yes s) = yes (λ i. record { epoch = record { 0 = p i }; time = record { 0 = q i }; key = r i; value = s i })
together (no n) _ _ _ = no (λ e. n (ap (λ (m : Message). m.epoch.0) e))
together (yes _) (no n) _ _ = no (λ e. n (ap (λ (m : Message). m.time.0) e))
together (yes _) (yes _) (no n) _ = no (λ e. n (ap (λ (m : Message). m.key) e))
together (yes _) (yes _) (yes _) (no n) = no (λ e. n (ap (λ (m : Message). m.value) e))

unfoldable pub message_dec : Discrete Message
message_dec a b =
    together {a = a} {b = b} (number_dec a.epoch.0 b.epoch.0) (number_dec a.time.0 b.time.0) (key_dec a.key b.key) (value_dec a.value b.value)
