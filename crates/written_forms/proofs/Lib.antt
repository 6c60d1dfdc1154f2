mod TextFacts
