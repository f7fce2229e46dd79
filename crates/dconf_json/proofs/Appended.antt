-- What is appended one after the other.
use Rattle.std.proofs.Common.{◌≡◌, ◌∙◌, List, ◌++◌, ap, append_assoc}
use Rattle.json.specs.Token.{Token}

two : (t u v a b : List Token) → u ≡ t ++ a → v ≡ u ++ b → v ≡ t ++ (a ++ b)
two t u v a b e f = f ∙ (ap (λ x. x ++ b) e ∙ append_assoc t a b)

pub three : (t u v w a b c : List Token) → u ≡ t ++ a → v ≡ u ++ b → w ≡ v ++ c → w ≡ t ++ (a ++ (b ++ c))
three t u v w a b c e f g = two t u w a (b ++ c) e (two u v w b c f g)

pub four : (t u v w x a b c d : List Token) → u ≡ t ++ a → v ≡ u ++ b → w ≡ v ++ c → x ≡ w ++ d → x ≡ t ++ (a ++ (b ++ (c ++ d)))
four t u v w x a b c d e f g h = two t u x a (b ++ (c ++ d)) e (three u v w x b c d f g h)
