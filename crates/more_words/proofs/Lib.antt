mod FirstLaw
